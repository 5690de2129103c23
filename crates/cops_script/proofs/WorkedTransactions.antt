-- Contexts and transactions: scripts and what is written for them, computed from their bytes.
use Rattle.std.proofs.Common.{◌≡◌, ◌++◌, refl}
use Rattle.std.specs.Prelude.{codes}
use Rattle.cops_types.specs.OnLiterals.{texts_on_literals}
use Rattle.cops_script.specs.Script.{Written, script_out}
use Rattle.cops_script.proofs.ScriptWords.{ended, acme_line, beta_line}

-- a dropped context is refused and its number is not issued again
a_dropped_context_is_gone :
    script_out (
    ended (codes "cluster 1 1 5000 1") ++ acme_line ++ beta_line ++ ended (codes "begin") ++ ended (codes "acme open a 0") ++ ended (codes "acme ctx a")
    ++ ended (codes "acme drop a 1") ++ ended (codes "acme put a 1 x 10") ++ ended (codes "acme ctx a") ++ ended (codes "acme get a 2 x")
    ++ ended (codes "acme ctx a"))
    ≡ Written (ended (codes "acme opened") ++ ended (codes "acme context 1") ++ ended (codes "acme dropped") ++ ended (codes "acme E07")
    ++ ended (codes "acme context 2") ++ ended (codes "acme started") ++ ended (codes "acme E05"))
unfolding texts_on_literals
a_dropped_context_is_gone = refl

-- a transaction that meets a dependency in its first round reads the missing version in its second
a_second_round_reads_the_dependency :
    script_out (
    ended (codes "cluster 1 2 5000 1") ++ acme_line ++ beta_line ++ ended (codes "begin") ++ ended (codes "acme open a 0") ++ ended (codes "acme ctx a")
    ++ ended (codes "acme open b 0") ++ ended (codes "acme ctx b") ++ ended (codes "acme get a 1 x y") ++ ended (codes "acme step a 10")
    ++ ended (codes "acme put b 1 x 10") ++ ended (codes "acme done b 10") ++ ended (codes "acme put b 1 y 20") ++ ended (codes "acme done b 10")
    ++ ended (codes "acme step a 11") ++ ended (codes "acme step a 12") ++ ended (codes "acme show a 1"))
    ≡ Written (ended (codes "acme opened") ++ ended (codes "acme context 1") ++ ended (codes "acme opened") ++ ended (codes "acme context 1")
    ++ ended (codes "acme started") ++ ended (codes "acme working") ++ ended (codes "acme started") ++ ended (codes "acme stored x 1.0")
    ++ ended (codes "acme started") ++ ended (codes "acme stored y 2.1") ++ ended (codes "acme working") ++ ended (codes "acme x=10@1.0 y=20@2.1")
    ++ ended (codes "acme all x:1.0,y:2.1 near y:2.1"))
unfolding texts_on_literals
a_second_round_reads_the_dependency = refl

-- results that do not fit the lists are refused, and none is observed
a_transaction_that_overfills_the_lists :
    script_out (
    ended (codes "cluster 1 2 5000 1") ++ ended (codes "tenant acme 00000000-0000-0000-0000-000000000001 0 100 10000 10 4 1 8 1000") ++ beta_line
    ++ ended (codes "begin") ++ ended (codes "acme open a 0") ++ ended (codes "acme ctx a") ++ ended (codes "acme open b 0") ++ ended (codes "acme ctx b")
    ++ ended (codes "acme put b 1 x 10") ++ ended (codes "acme done b 0") ++ ended (codes "acme ctx b") ++ ended (codes "acme put b 2 y 20")
    ++ ended (codes "acme done b 0") ++ ended (codes "acme get a 1 x y") ++ ended (codes "acme done a 0") ++ ended (codes "acme show a 1"))
    ≡ Written (ended (codes "acme opened") ++ ended (codes "acme context 1") ++ ended (codes "acme opened") ++ ended (codes "acme context 1")
    ++ ended (codes "acme started") ++ ended (codes "acme stored x 1.0") ++ ended (codes "acme context 2") ++ ended (codes "acme started")
    ++ ended (codes "acme stored y 1.1") ++ ended (codes "acme started") ++ ended (codes "acme E15") ++ ended (codes "acme all - near -"))
unfolding texts_on_literals
a_transaction_that_overfills_the_lists = refl

-- reading an absent key adds nothing to the lists
an_absent_key_leaves_the_lists_empty :
    script_out (
    ended (codes "cluster 1 1 5000 1") ++ acme_line ++ ended (codes "begin") ++ ended (codes "acme open a 0") ++ ended (codes "acme ctx a")
    ++ ended (codes "acme get a 1 x") ++ ended (codes "acme step a 0") ++ ended (codes "acme show a 1"))
    ≡ Written (ended (codes "acme opened") ++ ended (codes "acme context 1") ++ ended (codes "acme started") ++ ended (codes "acme x=none@0.0")
    ++ ended (codes "acme all - near -"))
unfolding texts_on_literals
an_absent_key_leaves_the_lists_empty = refl

-- busy, repeated key, idle, unknown name, taken name, no such place
refusals_of_a_session :
    script_out (
    ended (codes "cluster 1 1 5000 1") ++ acme_line ++ beta_line ++ ended (codes "begin") ++ ended (codes "acme open a 0") ++ ended (codes "acme ctx a")
    ++ ended (codes "acme drop a 1") ++ ended (codes "acme put a 1 x 10") ++ ended (codes "acme ctx a") ++ ended (codes "acme get a 2 x")
    ++ ended (codes "acme ctx a") ++ ended (codes "acme done a 0") ++ ended (codes "acme get a 2 x x") ++ ended (codes "acme step a 0")
    ++ ended (codes "acme step b 0") ++ ended (codes "acme open a 0") ++ ended (codes "acme open b 1"))
    ≡ Written (ended (codes "acme opened") ++ ended (codes "acme context 1") ++ ended (codes "acme dropped") ++ ended (codes "acme E07")
    ++ ended (codes "acme context 2") ++ ended (codes "acme started") ++ ended (codes "acme E05") ++ ended (codes "acme x=none@0.0") ++ ended (codes "acme E24")
    ++ ended (codes "acme E06") ++ ended (codes "acme E03") ++ ended (codes "acme E04") ++ ended (codes "acme E22"))
unfolding texts_on_literals
refusals_of_a_session = refl

-- each small quota refuses at its own place
small_quotas_of_contexts_dependencies_and_actors :
    script_out (
    ended (codes "cluster 1 1 5000 1") ++ ended (codes "tenant acme 00000000-0000-0000-0000-000000000001 0 100 10000 10 1 2 2 1000") ++ beta_line
    ++ ended (codes "begin") ++ ended (codes "acme open a 0") ++ ended (codes "acme ctx a") ++ ended (codes "acme ctx a") ++ ended (codes "acme put a 1 p 1")
    ++ ended (codes "acme done a 0") ++ ended (codes "acme put a 1 q 1") ++ ended (codes "acme done a 0") ++ ended (codes "acme put a 1 r 1")
    ++ ended (codes "acme put a 1 p 2") ++ ended (codes "acme done a 0") ++ ended (codes "acme open b 0") ++ ended (codes "acme open c 0"))
    ≡ Written (ended (codes "acme opened") ++ ended (codes "acme context 1") ++ ended (codes "acme E08") ++ ended (codes "acme started")
    ++ ended (codes "acme stored p 1.0") ++ ended (codes "acme started") ++ ended (codes "acme stored q 2.0") ++ ended (codes "acme E15")
    ++ ended (codes "acme started") ++ ended (codes "acme stored p 3.0") ++ ended (codes "acme opened") ++ ended (codes "acme E25"))
unfolding texts_on_literals
small_quotas_of_contexts_dependencies_and_actors = refl

-- two contexts keep lists of their own, and near may hold a key twice
two_contexts_of_one_session :
    script_out (
    ended (codes "cluster 1 2 5000 1") ++ acme_line ++ beta_line ++ ended (codes "begin") ++ ended (codes "acme open a 0") ++ ended (codes "acme ctx a")
    ++ ended (codes "acme put a 1 x 10") ++ ended (codes "acme done a 0") ++ ended (codes "acme put a 1 y 20") ++ ended (codes "acme done a 0")
    ++ ended (codes "acme ctx a") ++ ended (codes "acme put a 2 y 30") ++ ended (codes "acme done a 0") ++ ended (codes "acme show a 2")
    ++ ended (codes "acme get a 1 y") ++ ended (codes "acme done a 0") ++ ended (codes "acme show a 1"))
    ≡ Written (ended (codes "acme opened") ++ ended (codes "acme context 1") ++ ended (codes "acme started") ++ ended (codes "acme stored x 1.0")
    ++ ended (codes "acme started") ++ ended (codes "acme stored y 2.1") ++ ended (codes "acme context 2") ++ ended (codes "acme started")
    ++ ended (codes "acme stored y 3.1") ++ ended (codes "acme all y:3.1 near y:3.1") ++ ended (codes "acme started") ++ ended (codes "acme y=30@3.1")
    ++ ended (codes "acme all x:1.0,y:3.1 near y:2.1,y:3.1"))
unfolding texts_on_literals
two_contexts_of_one_session = refl
