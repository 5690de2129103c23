-- Tenants who come and go: scripts and what is written for them, computed from their bytes.
use Rattle.std.proofs.Common.{◌≡◌, ◌++◌, refl}
use Rattle.std.specs.Prelude.{codes}
use Rattle.cops_types.specs.OnLiterals.{texts_on_literals}
use Rattle.cops_script.specs.Script.{Written, NoTenant, script_out, solo_out}
use Rattle.cops_script.proofs.ScriptWords.{ended, acme_line}

-- sixty-four tenants are open: the next one is refused until one is closed
a_full_house_refuses_the_next_tenant :
    script_out (
    ended (codes "cluster 1 1 5000 1") ++ ended (codes "tenant t0 00000000-0000-0000-0000-000000000001 0 100 10000 10 4 20 8 1000")
    ++ ended (codes "tenant t1 00000000-0000-0000-0000-000000000002 0 100 10000 10 4 20 8 1000")
    ++ ended (codes "tenant t2 00000000-0000-0000-0000-000000000003 0 100 10000 10 4 20 8 1000")
    ++ ended (codes "tenant t3 00000000-0000-0000-0000-000000000004 0 100 10000 10 4 20 8 1000")
    ++ ended (codes "tenant t4 00000000-0000-0000-0000-000000000005 0 100 10000 10 4 20 8 1000")
    ++ ended (codes "tenant t5 00000000-0000-0000-0000-000000000006 0 100 10000 10 4 20 8 1000")
    ++ ended (codes "tenant t6 00000000-0000-0000-0000-000000000007 0 100 10000 10 4 20 8 1000")
    ++ ended (codes "tenant t7 00000000-0000-0000-0000-000000000008 0 100 10000 10 4 20 8 1000")
    ++ ended (codes "tenant t8 00000000-0000-0000-0000-000000000009 0 100 10000 10 4 20 8 1000")
    ++ ended (codes "tenant t9 00000000-0000-0000-0000-00000000000a 0 100 10000 10 4 20 8 1000")
    ++ ended (codes "tenant t10 00000000-0000-0000-0000-00000000000b 0 100 10000 10 4 20 8 1000")
    ++ ended (codes "tenant t11 00000000-0000-0000-0000-00000000000c 0 100 10000 10 4 20 8 1000")
    ++ ended (codes "tenant t12 00000000-0000-0000-0000-00000000000d 0 100 10000 10 4 20 8 1000")
    ++ ended (codes "tenant t13 00000000-0000-0000-0000-00000000000e 0 100 10000 10 4 20 8 1000")
    ++ ended (codes "tenant t14 00000000-0000-0000-0000-00000000000f 0 100 10000 10 4 20 8 1000")
    ++ ended (codes "tenant t15 00000000-0000-0000-0000-000000000010 0 100 10000 10 4 20 8 1000")
    ++ ended (codes "tenant t16 00000000-0000-0000-0000-000000000011 0 100 10000 10 4 20 8 1000")
    ++ ended (codes "tenant t17 00000000-0000-0000-0000-000000000012 0 100 10000 10 4 20 8 1000")
    ++ ended (codes "tenant t18 00000000-0000-0000-0000-000000000013 0 100 10000 10 4 20 8 1000")
    ++ ended (codes "tenant t19 00000000-0000-0000-0000-000000000014 0 100 10000 10 4 20 8 1000")
    ++ ended (codes "tenant t20 00000000-0000-0000-0000-000000000015 0 100 10000 10 4 20 8 1000")
    ++ ended (codes "tenant t21 00000000-0000-0000-0000-000000000016 0 100 10000 10 4 20 8 1000")
    ++ ended (codes "tenant t22 00000000-0000-0000-0000-000000000017 0 100 10000 10 4 20 8 1000")
    ++ ended (codes "tenant t23 00000000-0000-0000-0000-000000000018 0 100 10000 10 4 20 8 1000")
    ++ ended (codes "tenant t24 00000000-0000-0000-0000-000000000019 0 100 10000 10 4 20 8 1000")
    ++ ended (codes "tenant t25 00000000-0000-0000-0000-00000000001a 0 100 10000 10 4 20 8 1000")
    ++ ended (codes "tenant t26 00000000-0000-0000-0000-00000000001b 0 100 10000 10 4 20 8 1000")
    ++ ended (codes "tenant t27 00000000-0000-0000-0000-00000000001c 0 100 10000 10 4 20 8 1000")
    ++ ended (codes "tenant t28 00000000-0000-0000-0000-00000000001d 0 100 10000 10 4 20 8 1000")
    ++ ended (codes "tenant t29 00000000-0000-0000-0000-00000000001e 0 100 10000 10 4 20 8 1000")
    ++ ended (codes "tenant t30 00000000-0000-0000-0000-00000000001f 0 100 10000 10 4 20 8 1000")
    ++ ended (codes "tenant t31 00000000-0000-0000-0000-000000000020 0 100 10000 10 4 20 8 1000")
    ++ ended (codes "tenant t32 00000000-0000-0000-0000-000000000021 0 100 10000 10 4 20 8 1000")
    ++ ended (codes "tenant t33 00000000-0000-0000-0000-000000000022 0 100 10000 10 4 20 8 1000")
    ++ ended (codes "tenant t34 00000000-0000-0000-0000-000000000023 0 100 10000 10 4 20 8 1000")
    ++ ended (codes "tenant t35 00000000-0000-0000-0000-000000000024 0 100 10000 10 4 20 8 1000")
    ++ ended (codes "tenant t36 00000000-0000-0000-0000-000000000025 0 100 10000 10 4 20 8 1000")
    ++ ended (codes "tenant t37 00000000-0000-0000-0000-000000000026 0 100 10000 10 4 20 8 1000")
    ++ ended (codes "tenant t38 00000000-0000-0000-0000-000000000027 0 100 10000 10 4 20 8 1000")
    ++ ended (codes "tenant t39 00000000-0000-0000-0000-000000000028 0 100 10000 10 4 20 8 1000")
    ++ ended (codes "tenant t40 00000000-0000-0000-0000-000000000029 0 100 10000 10 4 20 8 1000")
    ++ ended (codes "tenant t41 00000000-0000-0000-0000-00000000002a 0 100 10000 10 4 20 8 1000")
    ++ ended (codes "tenant t42 00000000-0000-0000-0000-00000000002b 0 100 10000 10 4 20 8 1000")
    ++ ended (codes "tenant t43 00000000-0000-0000-0000-00000000002c 0 100 10000 10 4 20 8 1000")
    ++ ended (codes "tenant t44 00000000-0000-0000-0000-00000000002d 0 100 10000 10 4 20 8 1000")
    ++ ended (codes "tenant t45 00000000-0000-0000-0000-00000000002e 0 100 10000 10 4 20 8 1000")
    ++ ended (codes "tenant t46 00000000-0000-0000-0000-00000000002f 0 100 10000 10 4 20 8 1000")
    ++ ended (codes "tenant t47 00000000-0000-0000-0000-000000000030 0 100 10000 10 4 20 8 1000")
    ++ ended (codes "tenant t48 00000000-0000-0000-0000-000000000031 0 100 10000 10 4 20 8 1000")
    ++ ended (codes "tenant t49 00000000-0000-0000-0000-000000000032 0 100 10000 10 4 20 8 1000")
    ++ ended (codes "tenant t50 00000000-0000-0000-0000-000000000033 0 100 10000 10 4 20 8 1000")
    ++ ended (codes "tenant t51 00000000-0000-0000-0000-000000000034 0 100 10000 10 4 20 8 1000")
    ++ ended (codes "tenant t52 00000000-0000-0000-0000-000000000035 0 100 10000 10 4 20 8 1000")
    ++ ended (codes "tenant t53 00000000-0000-0000-0000-000000000036 0 100 10000 10 4 20 8 1000")
    ++ ended (codes "tenant t54 00000000-0000-0000-0000-000000000037 0 100 10000 10 4 20 8 1000")
    ++ ended (codes "tenant t55 00000000-0000-0000-0000-000000000038 0 100 10000 10 4 20 8 1000")
    ++ ended (codes "tenant t56 00000000-0000-0000-0000-000000000039 0 100 10000 10 4 20 8 1000")
    ++ ended (codes "tenant t57 00000000-0000-0000-0000-00000000003a 0 100 10000 10 4 20 8 1000")
    ++ ended (codes "tenant t58 00000000-0000-0000-0000-00000000003b 0 100 10000 10 4 20 8 1000")
    ++ ended (codes "tenant t59 00000000-0000-0000-0000-00000000003c 0 100 10000 10 4 20 8 1000")
    ++ ended (codes "tenant t60 00000000-0000-0000-0000-00000000003d 0 100 10000 10 4 20 8 1000")
    ++ ended (codes "tenant t61 00000000-0000-0000-0000-00000000003e 0 100 10000 10 4 20 8 1000")
    ++ ended (codes "tenant t62 00000000-0000-0000-0000-00000000003f 0 100 10000 10 4 20 8 1000")
    ++ ended (codes "tenant t63 00000000-0000-0000-0000-000000000040 0 100 10000 10 4 20 8 1000") ++ ended (codes "begin")
    ++ ended (codes "+ last 00000000-0000-0000-0000-000000000063 0 100 10000 10 4 20 8 1000") ++ ended (codes "- t7")
    ++ ended (codes "+ last 00000000-0000-0000-0000-000000000063 0 100 10000 10 4 20 8 1000"))
    ≡ Written (ended (codes "- E28") ++ ended (codes "- closed t7") ++ ended (codes "- admitted last"))
unfolding texts_on_literals
a_full_house_refuses_the_next_tenant = refl

-- the end of the input refuses a name that was never open; to be refused is not to be open
a_name_that_was_never_open_alone :
    solo_out (codes "zeta") (
    ended (codes "cluster 1 1 5000 1") ++ acme_line ++ ended (codes "begin") ++ ended (codes "zeta open a 0")
    ++ ended (codes "+ zeta 00000000-0000-0000-0000-000000000001 0 100 10000 10 4 20 8 1000") ++ ended (codes "zeta open a 0") ++ ended (codes "- zeta")
    ++ ended (codes "acme open a 0"))
    ≡ NoTenant
unfolding texts_on_literals
a_name_that_was_never_open_alone = refl

-- a name alone gets the replies of its lives one after another, each on a new cluster, and nothing for lines of the host
a_name_with_two_lives_alone :
    solo_out (codes "beta") (
    ended (codes "cluster 1 1 5000 1") ++ acme_line ++ ended (codes "begin")
    ++ ended (codes "+ beta 00000000-0000-0000-0000-000000000002 0 100 10000 10 4 20 8 1000") ++ ended (codes "beta open b 0") ++ ended (codes "beta ctx b")
    ++ ended (codes "beta put b 1 x 99") ++ ended (codes "beta done b 0") ++ ended (codes "acme open a 0") ++ ended (codes "- beta")
    ++ ended (codes "beta step b 0") ++ ended (codes "+ beta 00000000-0000-0000-0000-000000000003 40 100 10000 10 4 20 8 1000") ++ ended (codes "beta open b 0")
    ++ ended (codes "beta ctx b") ++ ended (codes "beta get b 1 x") ++ ended (codes "beta done b 0") ++ ended (codes "beta put b 1 x 1")
    ++ ended (codes "beta done b 0") ++ ended (codes "- beta"))
    ≡ Written (ended (codes "beta opened") ++ ended (codes "beta context 1") ++ ended (codes "beta started") ++ ended (codes "beta stored x 1.0")
    ++ ended (codes "beta opened") ++ ended (codes "beta context 1") ++ ended (codes "beta started") ++ ended (codes "beta x=none@0.0")
    ++ ended (codes "beta started") ++ ended (codes "beta stored x 41.0"))
unfolding texts_on_literals
a_name_with_two_lives_alone = refl

-- the second tenant of a slot has a clock, quotas, queues, marks and actors of its own, and nothing of the first
a_slots_second_tenant_knows_nothing_of_the_first :
    script_out (
    ended (codes "cluster 2 1 5000 1") ++ ended (codes "tenant acme 00000000-0000-0000-0000-000000000001 7 1 10 1 1 20 3 4") ++ ended (codes "begin")
    ++ ended (codes "acme open a 0") ++ ended (codes "acme ctx a") ++ ended (codes "acme put a 1 x 10") ++ ended (codes "acme done a 900000")
    ++ ended (codes "acme put a 1 y 20") ++ ended (codes "acme done a 900000") ++ ended (codes "acme open b 1") ++ ended (codes "acme carry c 0 0 1")
    ++ ended (codes "acme step c 900000") ++ ended (codes "acme open d 0") ++ ended (codes "- acme")
    ++ ended (codes "+ beta 00000000-0000-0000-0000-000000000002 7 1 10 1 1 20 3 4") ++ ended (codes "beta step a 0") ++ ended (codes "beta step c 0")
    ++ ended (codes "beta open b 0") ++ ended (codes "beta open a 1") ++ ended (codes "beta ctx a") ++ ended (codes "beta get a 1 x")
    ++ ended (codes "beta done a 0") ++ ended (codes "beta carry c 0 0 1") ++ ended (codes "beta done c 0") ++ ended (codes "beta ctx b")
    ++ ended (codes "beta put b 1 x 30") ++ ended (codes "beta done b 0") ++ ended (codes "beta carry c 0 0 1") ++ ended (codes "beta done c 0")
    ++ ended (codes "beta collect 0 0 5001"))
    ≡ Written (ended (codes "acme opened") ++ ended (codes "acme context 1") ++ ended (codes "acme started") ++ ended (codes "acme stored x 8.0")
    ++ ended (codes "acme started") ++ ended (codes "acme E12") ++ ended (codes "acme opened") ++ ended (codes "acme started") ++ ended (codes "acme working")
    ++ ended (codes "acme E25") ++ ended (codes "- closed acme") ++ ended (codes "- admitted beta") ++ ended (codes "beta E03") ++ ended (codes "beta E03")
    ++ ended (codes "beta opened") ++ ended (codes "beta opened") ++ ended (codes "beta context 1") ++ ended (codes "beta started")
    ++ ended (codes "beta x=none@0.0") ++ ended (codes "beta started") ++ ended (codes "beta nothing") ++ ended (codes "beta context 1")
    ++ ended (codes "beta started") ++ ended (codes "beta stored x 8.0") ++ ended (codes "beta started") ++ ended (codes "beta committed x 8.0 acked")
    ++ ended (codes "beta E17"))
unfolding texts_on_literals
a_slots_second_tenant_knows_nothing_of_the_first = refl

-- the head has no tenant: a line of the host admits the first, who may go again
a_tenant_comes_to_a_head_without_any :
    script_out (
    ended (codes "cluster 1 1 5000 1") ++ ended (codes "begin") ++ ended (codes "acme open a 0")
    ++ ended (codes "+ acme 00000000-0000-0000-0000-000000000001 0 100 10000 10 4 20 8 1000") ++ ended (codes "acme open a 0") ++ ended (codes "acme ctx a")
    ++ ended (codes "acme put a 1 x 10") ++ ended (codes "acme done a 0") ++ ended (codes "- acme") ++ ended (codes "acme step a 1") ++ ended (codes "- acme"))
    ≡ Written (ended (codes "- E02") ++ ended (codes "- admitted acme") ++ ended (codes "acme opened") ++ ended (codes "acme context 1")
    ++ ended (codes "acme started") ++ ended (codes "acme stored x 1.0") ++ ended (codes "- closed acme") ++ ended (codes "- E02") ++ ended (codes "- E02"))
unfolding texts_on_literals
a_tenant_comes_to_a_head_without_any = refl

-- a tenant that a line of the host admits, run alone
an_admitted_tenant_alone :
    solo_out (codes "gama") (
    ended (codes "cluster 1 1 5000 1") ++ acme_line ++ ended (codes "begin")
    ++ ended (codes "+ beta 00000000-0000-0000-0000-000000000002 0 100 10000 10 4 20 8 1000") ++ ended (codes "beta open b 0") ++ ended (codes "beta ctx b")
    ++ ended (codes "beta put b 1 x 99") ++ ended (codes "beta done b 0") ++ ended (codes "- beta") ++ ended (codes "beta step b 0")
    ++ ended (codes "+ gama 00000000-0000-0000-0000-000000000002 0 100 10000 10 4 20 8 1000") ++ ended (codes "gama open b 0") ++ ended (codes "gama ctx b")
    ++ ended (codes "gama get b 1 x") ++ ended (codes "gama done b 0") ++ ended (codes "gama put b 1 x 1") ++ ended (codes "gama done b 0")
    ++ ended (codes "+ zeta 00000000-0000-0000-0000-000000000002 0 100 10000 10 4 20 8 1000") ++ ended (codes "- zeta") ++ ended (codes "+ zeta")
    ++ ended (codes "-"))
    ≡ Written (ended (codes "gama opened") ++ ended (codes "gama context 1") ++ ended (codes "gama started") ++ ended (codes "gama x=none@0.0")
    ++ ended (codes "gama started") ++ ended (codes "gama stored x 1.0"))
unfolding texts_on_literals
an_admitted_tenant_alone = refl

-- each line of the host stands there twice: if memory runs out for the first, the second does what it says
each_line_of_the_host_twice :
    script_out (
    ended (codes "cluster 2 2 5000 1") ++ acme_line ++ ended (codes "begin") ++ ended (codes "acme open a 0") ++ ended (codes "acme ctx a")
    ++ ended (codes "acme put a 1 x 10") ++ ended (codes "acme done a 0")
    ++ ended (codes "+ beta 00000000-0000-0000-0000-000000000002 0 100 10000 10 4 20 8 1000")
    ++ ended (codes "+ beta 00000000-0000-0000-0000-000000000002 0 100 10000 10 4 20 8 1000") ++ ended (codes "beta open b 0") ++ ended (codes "beta ctx b")
    ++ ended (codes "beta get b 1 x y") ++ ended (codes "beta done b 0") ++ ended (codes "beta put b 1 x 7") ++ ended (codes "beta done b 1")
    ++ ended (codes "beta open d 1") ++ ended (codes "beta carry c 0 0 1") ++ ended (codes "beta done c 2") ++ ended (codes "acme put a 1 y 20")
    ++ ended (codes "acme done a 1") ++ ended (codes "acme get a 1 x y") ++ ended (codes "acme done a 2") ++ ended (codes "- beta") ++ ended (codes "- beta")
    ++ ended (codes "+ gama 00000000-0000-0000-0000-000000000002 0 100 10000 10 4 20 8 1000")
    ++ ended (codes "+ gama 00000000-0000-0000-0000-000000000002 0 100 10000 10 4 20 8 1000") ++ ended (codes "gama open b 0") ++ ended (codes "gama ctx b")
    ++ ended (codes "gama get b 1 x y") ++ ended (codes "gama done b 0") ++ ended (codes "gama put b 1 x 7") ++ ended (codes "gama done b 1")
    ++ ended (codes "gama open d 1") ++ ended (codes "gama carry c 0 0 1") ++ ended (codes "gama done c 2") ++ ended (codes "gama show b 1")
    ++ ended (codes "acme carry c 0 0 1") ++ ended (codes "acme done c 3") ++ ended (codes "acme get a 1 y x") ++ ended (codes "acme done a 4")
    ++ ended (codes "+ beta 00000000-0000-0000-0000-000000000003 0 100 10000 10 4 20 8 1000")
    ++ ended (codes "+ beta 00000000-0000-0000-0000-000000000003 0 100 10000 10 4 20 8 1000") ++ ended (codes "beta open b 0") ++ ended (codes "beta ctx b")
    ++ ended (codes "beta get b 1 x y") ++ ended (codes "beta done b 0") ++ ended (codes "beta put b 1 x 7") ++ ended (codes "beta done b 1")
    ++ ended (codes "beta open d 1") ++ ended (codes "beta carry c 0 0 1") ++ ended (codes "beta done c 2") ++ ended (codes "- gama") ++ ended (codes "- gama")
    ++ ended (codes "- beta") ++ ended (codes "- beta") ++ ended (codes "- acme") ++ ended (codes "- acme")
    ++ ended (codes "+ acme 00000000-0000-0000-0000-000000000004 0 100 10000 10 4 20 8 1000")
    ++ ended (codes "+ acme 00000000-0000-0000-0000-000000000004 0 100 10000 10 4 20 8 1000") ++ ended (codes "acme open a 1") ++ ended (codes "acme ctx a")
    ++ ended (codes "acme get a 1 x y") ++ ended (codes "acme done a 5"))
    ≡ Written (ended (codes "acme opened") ++ ended (codes "acme context 1") ++ ended (codes "acme started") ++ ended (codes "acme stored x 1.0")
    ++ ended (codes "- admitted beta") ++ ended (codes "- E04") ++ ended (codes "beta opened") ++ ended (codes "beta context 1") ++ ended (codes "beta started")
    ++ ended (codes "beta x=none@0.0 y=none@0.0") ++ ended (codes "beta started") ++ ended (codes "beta stored x 1.0") ++ ended (codes "beta opened")
    ++ ended (codes "beta started") ++ ended (codes "beta committed x 1.0 acked") ++ ended (codes "acme started") ++ ended (codes "acme stored y 2.1")
    ++ ended (codes "acme started") ++ ended (codes "acme x=10@1.0 y=20@2.1") ++ ended (codes "- closed beta") ++ ended (codes "- E02")
    ++ ended (codes "- admitted gama") ++ ended (codes "- E04") ++ ended (codes "gama opened") ++ ended (codes "gama context 1") ++ ended (codes "gama started")
    ++ ended (codes "gama x=none@0.0 y=none@0.0") ++ ended (codes "gama started") ++ ended (codes "gama stored x 1.0") ++ ended (codes "gama opened")
    ++ ended (codes "gama started") ++ ended (codes "gama committed x 1.0 acked") ++ ended (codes "gama all x:1.0 near x:1.0") ++ ended (codes "acme started")
    ++ ended (codes "acme committed x 1.0 acked") ++ ended (codes "acme started") ++ ended (codes "acme y=20@2.1 x=10@1.0") ++ ended (codes "- admitted beta")
    ++ ended (codes "- E04") ++ ended (codes "beta opened") ++ ended (codes "beta context 1") ++ ended (codes "beta started")
    ++ ended (codes "beta x=none@0.0 y=none@0.0") ++ ended (codes "beta started") ++ ended (codes "beta stored x 1.0") ++ ended (codes "beta opened")
    ++ ended (codes "beta started") ++ ended (codes "beta committed x 1.0 acked") ++ ended (codes "- closed gama") ++ ended (codes "- E02")
    ++ ended (codes "- closed beta") ++ ended (codes "- E02") ++ ended (codes "- closed acme") ++ ended (codes "- E02") ++ ended (codes "- admitted acme")
    ++ ended (codes "- E04") ++ ended (codes "acme opened") ++ ended (codes "acme context 1") ++ ended (codes "acme started")
    ++ ended (codes "acme x=none@0.0 y=none@0.0"))
unfolding texts_on_literals
each_line_of_the_host_twice = refl

-- a name of two lives alone; each line of the host stands there twice
each_line_of_the_host_twice_alone :
    solo_out (codes "beta") (
    ended (codes "cluster 2 2 5000 1") ++ acme_line ++ ended (codes "begin") ++ ended (codes "acme open a 0") ++ ended (codes "acme ctx a")
    ++ ended (codes "acme put a 1 x 10") ++ ended (codes "acme done a 0")
    ++ ended (codes "+ beta 00000000-0000-0000-0000-000000000002 0 100 10000 10 4 20 8 1000")
    ++ ended (codes "+ beta 00000000-0000-0000-0000-000000000002 0 100 10000 10 4 20 8 1000") ++ ended (codes "beta open b 0") ++ ended (codes "beta ctx b")
    ++ ended (codes "beta get b 1 x y") ++ ended (codes "beta done b 0") ++ ended (codes "beta put b 1 x 7") ++ ended (codes "beta done b 1")
    ++ ended (codes "beta open d 1") ++ ended (codes "beta carry c 0 0 1") ++ ended (codes "beta done c 2") ++ ended (codes "acme put a 1 y 20")
    ++ ended (codes "acme done a 1") ++ ended (codes "acme get a 1 x y") ++ ended (codes "acme done a 2") ++ ended (codes "- beta") ++ ended (codes "- beta")
    ++ ended (codes "+ gama 00000000-0000-0000-0000-000000000002 0 100 10000 10 4 20 8 1000")
    ++ ended (codes "+ gama 00000000-0000-0000-0000-000000000002 0 100 10000 10 4 20 8 1000") ++ ended (codes "gama open b 0") ++ ended (codes "gama ctx b")
    ++ ended (codes "gama get b 1 x y") ++ ended (codes "gama done b 0") ++ ended (codes "gama put b 1 x 7") ++ ended (codes "gama done b 1")
    ++ ended (codes "gama open d 1") ++ ended (codes "gama carry c 0 0 1") ++ ended (codes "gama done c 2") ++ ended (codes "gama show b 1")
    ++ ended (codes "acme carry c 0 0 1") ++ ended (codes "acme done c 3") ++ ended (codes "acme get a 1 y x") ++ ended (codes "acme done a 4")
    ++ ended (codes "+ beta 00000000-0000-0000-0000-000000000003 0 100 10000 10 4 20 8 1000")
    ++ ended (codes "+ beta 00000000-0000-0000-0000-000000000003 0 100 10000 10 4 20 8 1000") ++ ended (codes "beta open b 0") ++ ended (codes "beta ctx b")
    ++ ended (codes "beta get b 1 x y") ++ ended (codes "beta done b 0") ++ ended (codes "beta put b 1 x 7") ++ ended (codes "beta done b 1")
    ++ ended (codes "beta open d 1") ++ ended (codes "beta carry c 0 0 1") ++ ended (codes "beta done c 2") ++ ended (codes "- gama") ++ ended (codes "- gama")
    ++ ended (codes "- beta") ++ ended (codes "- beta") ++ ended (codes "- acme") ++ ended (codes "- acme")
    ++ ended (codes "+ acme 00000000-0000-0000-0000-000000000004 0 100 10000 10 4 20 8 1000")
    ++ ended (codes "+ acme 00000000-0000-0000-0000-000000000004 0 100 10000 10 4 20 8 1000") ++ ended (codes "acme open a 1") ++ ended (codes "acme ctx a")
    ++ ended (codes "acme get a 1 x y") ++ ended (codes "acme done a 5"))
    ≡ Written (ended (codes "beta opened") ++ ended (codes "beta context 1") ++ ended (codes "beta started") ++ ended (codes "beta x=none@0.0 y=none@0.0")
    ++ ended (codes "beta started") ++ ended (codes "beta stored x 1.0") ++ ended (codes "beta opened") ++ ended (codes "beta started")
    ++ ended (codes "beta committed x 1.0 acked") ++ ended (codes "beta opened") ++ ended (codes "beta context 1") ++ ended (codes "beta started")
    ++ ended (codes "beta x=none@0.0 y=none@0.0") ++ ended (codes "beta started") ++ ended (codes "beta stored x 1.0") ++ ended (codes "beta opened")
    ++ ended (codes "beta started") ++ ended (codes "beta committed x 1.0 acked"))
unfolding texts_on_literals
each_line_of_the_host_twice_alone = refl

-- a closed tenant leaves nothing to the one who takes its slot
tenants_are_admitted_and_closed :
    script_out (
    ended (codes "cluster 1 1 5000 1") ++ acme_line ++ ended (codes "begin")
    ++ ended (codes "+ beta 00000000-0000-0000-0000-000000000002 0 100 10000 10 4 20 8 1000") ++ ended (codes "beta open b 0") ++ ended (codes "beta ctx b")
    ++ ended (codes "beta put b 1 x 99") ++ ended (codes "beta done b 0") ++ ended (codes "- beta") ++ ended (codes "beta step b 0")
    ++ ended (codes "+ gama 00000000-0000-0000-0000-000000000002 0 100 10000 10 4 20 8 1000") ++ ended (codes "gama open b 0") ++ ended (codes "gama ctx b")
    ++ ended (codes "gama get b 1 x") ++ ended (codes "gama done b 0") ++ ended (codes "gama put b 1 x 1") ++ ended (codes "gama done b 0")
    ++ ended (codes "+ zeta 00000000-0000-0000-0000-000000000002 0 100 10000 10 4 20 8 1000") ++ ended (codes "- zeta") ++ ended (codes "+ zeta")
    ++ ended (codes "-"))
    ≡ Written (ended (codes "- admitted beta") ++ ended (codes "beta opened") ++ ended (codes "beta context 1") ++ ended (codes "beta started")
    ++ ended (codes "beta stored x 1.0") ++ ended (codes "- closed beta") ++ ended (codes "- E02") ++ ended (codes "- admitted gama")
    ++ ended (codes "gama opened") ++ ended (codes "gama context 1") ++ ended (codes "gama started") ++ ended (codes "gama x=none@0.0")
    ++ ended (codes "gama started") ++ ended (codes "gama stored x 1.0") ++ ended (codes "- E04") ++ ended (codes "- E02") ++ ended (codes "- E01")
    ++ ended (codes "- E01"))
unfolding texts_on_literals
tenants_are_admitted_and_closed = refl
