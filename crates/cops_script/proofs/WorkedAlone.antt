-- A tenant alone: scripts and what is written for them, computed from their bytes.
use Rattle.std.proofs.Common.{◌≡◌, ◌++◌, refl}
use Rattle.std.specs.Prelude.{codes}
use Rattle.cops_types.specs.OnLiterals.{texts_on_literals}
use Rattle.cops_script.specs.Script.{Written, NoTenant, solo_out}
use Rattle.cops_script.proofs.ScriptWords.{ended, acme_line, beta_line}

-- the tenant run alone on the disturbed script
a_tenant_alone_gets_the_same_lines :
    solo_out (codes "acme") (
    ended (codes "cluster 1 2 5000 1") ++ acme_line ++ beta_line ++ ended (codes "begin") ++ ended (codes "acme open a 0") ++ ended (codes "acme ctx a")
    ++ ended (codes "acme open b 0") ++ ended (codes "acme ctx b") ++ ended (codes "beta open b 0") ++ ended (codes "beta ctx b")
    ++ ended (codes "beta put b 1 x 99") ++ ended (codes "beta done b 900000") ++ ended (codes "beta collect 0 0 990000") ++ ended (codes "acme get a 1 x y")
    ++ ended (codes "beta put b 1 x 99") ++ ended (codes "beta done b 900000") ++ ended (codes "beta collect 0 0 990000") ++ ended (codes "acme step a 10")
    ++ ended (codes "beta put b 1 x 99") ++ ended (codes "beta done b 900000") ++ ended (codes "beta collect 0 0 990000") ++ ended (codes "acme put b 1 x 10")
    ++ ended (codes "beta put b 1 x 99") ++ ended (codes "beta done b 900000") ++ ended (codes "beta collect 0 0 990000") ++ ended (codes "acme done b 10")
    ++ ended (codes "beta put b 1 x 99") ++ ended (codes "beta done b 900000") ++ ended (codes "beta collect 0 0 990000") ++ ended (codes "acme put b 1 y 20")
    ++ ended (codes "beta put b 1 x 99") ++ ended (codes "beta done b 900000") ++ ended (codes "beta collect 0 0 990000") ++ ended (codes "acme done b 10")
    ++ ended (codes "beta put b 1 x 99") ++ ended (codes "beta done b 900000") ++ ended (codes "beta collect 0 0 990000") ++ ended (codes "acme step a 11")
    ++ ended (codes "beta put b 1 x 99") ++ ended (codes "beta done b 900000") ++ ended (codes "beta collect 0 0 990000") ++ ended (codes "acme step a 12")
    ++ ended (codes "beta put b 1 x 99") ++ ended (codes "beta done b 900000") ++ ended (codes "beta collect 0 0 990000") ++ ended (codes "acme show a 1"))
    ≡ Written (ended (codes "acme opened") ++ ended (codes "acme context 1") ++ ended (codes "acme opened") ++ ended (codes "acme context 1")
    ++ ended (codes "acme started") ++ ended (codes "acme working") ++ ended (codes "acme started") ++ ended (codes "acme stored x 1.0")
    ++ ended (codes "acme started") ++ ended (codes "acme stored y 2.1") ++ ended (codes "acme working") ++ ended (codes "acme x=10@1.0 y=20@2.1")
    ++ ended (codes "acme all x:1.0,y:2.1 near y:2.1"))
unfolding texts_on_literals
a_tenant_alone_gets_the_same_lines = refl

-- a tenant that the head does not have
running_an_unknown_tenant_alone :
    solo_out (codes "zeta") (
    ended (codes "cluster 1 1 5000 1") ++ acme_line ++ ended (codes "begin") ++ ended (codes "acme open a 0") ++ ended (codes "acme ctx a")
    ++ ended (codes "acme put a 1 x 10") ++ ended (codes "acme step a 0") ++ ended (codes "acme get a 1 x") ++ ended (codes "acme step a 1"))
    ≡ NoTenant
unfolding texts_on_literals
running_an_unknown_tenant_alone = refl
