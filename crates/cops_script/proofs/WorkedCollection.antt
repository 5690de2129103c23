-- Collection and restarts: scripts and what is written for them, computed from their bytes.
use Rattle.std.proofs.Common.{◌≡◌, ◌++◌, refl}
use Rattle.std.specs.Prelude.{codes}
use Rattle.cops_types.specs.OnLiterals.{texts_on_literals}
use Rattle.cops_script.specs.Script.{Written, script_out}
use Rattle.cops_script.proofs.ScriptWords.{ended, acme_line, beta_line}

-- the transaction restarts and reads newer ones
a_collected_version_restarts_the_transaction :
    script_out (
    ended (codes "cluster 1 2 5000 1") ++ acme_line ++ beta_line ++ ended (codes "begin") ++ ended (codes "acme open a 0") ++ ended (codes "acme ctx a")
    ++ ended (codes "acme open b 0") ++ ended (codes "acme ctx b") ++ ended (codes "acme get a 1 x y") ++ ended (codes "acme step a 10")
    ++ ended (codes "acme put b 1 x 10") ++ ended (codes "acme done b 10") ++ ended (codes "acme put b 1 y 20") ++ ended (codes "acme done b 10")
    ++ ended (codes "acme put b 1 x 11") ++ ended (codes "acme done b 20") ++ ended (codes "acme collect 0 0 5021") ++ ended (codes "acme step a 11")
    ++ ended (codes "acme step a 12") ++ ended (codes "acme step a 13") ++ ended (codes "acme step a 14"))
    ≡ Written (ended (codes "acme opened") ++ ended (codes "acme context 1") ++ ended (codes "acme opened") ++ ended (codes "acme context 1")
    ++ ended (codes "acme started") ++ ended (codes "acme working") ++ ended (codes "acme started") ++ ended (codes "acme stored x 1.0")
    ++ ended (codes "acme started") ++ ended (codes "acme stored y 2.1") ++ ended (codes "acme started") ++ ended (codes "acme stored x 3.0")
    ++ ended (codes "acme removed 1") ++ ended (codes "acme working") ++ ended (codes "acme restarted 1") ++ ended (codes "acme working")
    ++ ended (codes "acme x=11@3.0 y=20@2.1"))
unfolding texts_on_literals
a_collected_version_restarts_the_transaction = refl

-- a step past the allowed time restarts, one just within it does not
a_late_step_restarts :
    script_out (
    ended (codes "cluster 1 1 5000 1") ++ acme_line ++ beta_line ++ ended (codes "begin") ++ ended (codes "acme open a 0") ++ ended (codes "acme ctx a")
    ++ ended (codes "acme get a 1 x y") ++ ended (codes "acme step a 10") ++ ended (codes "acme step a 5010") ++ ended (codes "acme get a 1 x y")
    ++ ended (codes "acme step a 3") ++ ended (codes "acme step a 10011") ++ ended (codes "acme step a 0") ++ ended (codes "acme step a 0"))
    ≡ Written (ended (codes "acme opened") ++ ended (codes "acme context 1") ++ ended (codes "acme started") ++ ended (codes "acme working")
    ++ ended (codes "acme x=none@0.0 y=none@0.0") ++ ended (codes "acme started") ++ ended (codes "acme working") ++ ended (codes "acme restarted 1")
    ++ ended (codes "acme working") ++ ended (codes "acme x=none@0.0 y=none@0.0"))
unfolding texts_on_literals
a_late_step_restarts = refl

-- a stale version is removed one moment after the allowed time
a_stale_version_is_collected_in_time :
    script_out (
    ended (codes "cluster 1 1 5000 1") ++ acme_line ++ beta_line ++ ended (codes "begin") ++ ended (codes "acme open a 0") ++ ended (codes "acme ctx a")
    ++ ended (codes "acme put a 1 x 10") ++ ended (codes "acme done a 0") ++ ended (codes "acme put a 1 x 20") ++ ended (codes "acme done a 100")
    ++ ended (codes "acme collect 0 0 5100") ++ ended (codes "acme collect 0 0 5101") ++ ended (codes "acme collect 0 0 5101"))
    ≡ Written (ended (codes "acme opened") ++ ended (codes "acme context 1") ++ ended (codes "acme started") ++ ended (codes "acme stored x 1.0")
    ++ ended (codes "acme started") ++ ended (codes "acme stored x 2.0") ++ ended (codes "acme removed 0") ++ ended (codes "acme removed 1")
    ++ ended (codes "acme removed 0"))
unfolding texts_on_literals
a_stale_version_is_collected_in_time = refl

-- another tenant puts and collects before each line, and changes nothing
another_tenant_between_the_rounds :
    script_out (
    ended (codes "cluster 1 2 5000 1") ++ acme_line ++ beta_line ++ ended (codes "begin") ++ ended (codes "acme open a 0") ++ ended (codes "acme ctx a")
    ++ ended (codes "acme open b 0") ++ ended (codes "acme ctx b") ++ ended (codes "beta open b 0") ++ ended (codes "beta ctx b")
    ++ ended (codes "beta put b 1 x 99") ++ ended (codes "beta done b 900000") ++ ended (codes "beta collect 0 0 990000") ++ ended (codes "acme get a 1 x y")
    ++ ended (codes "beta put b 1 x 99") ++ ended (codes "beta done b 900000") ++ ended (codes "beta collect 0 0 990000") ++ ended (codes "acme step a 10")
    ++ ended (codes "beta put b 1 x 99") ++ ended (codes "beta done b 900000") ++ ended (codes "beta collect 0 0 990000") ++ ended (codes "acme put b 1 x 10")
    ++ ended (codes "beta put b 1 x 99") ++ ended (codes "beta done b 900000") ++ ended (codes "beta collect 0 0 990000") ++ ended (codes "acme done b 10")
    ++ ended (codes "beta put b 1 x 99") ++ ended (codes "beta done b 900000") ++ ended (codes "beta collect 0 0 990000") ++ ended (codes "acme put b 1 y 20")
    ++ ended (codes "beta put b 1 x 99") ++ ended (codes "beta done b 900000") ++ ended (codes "beta collect 0 0 990000") ++ ended (codes "acme done b 10")
    ++ ended (codes "beta put b 1 x 99") ++ ended (codes "beta done b 900000") ++ ended (codes "beta collect 0 0 990000") ++ ended (codes "acme step a 11")
    ++ ended (codes "beta put b 1 x 99") ++ ended (codes "beta done b 900000") ++ ended (codes "beta collect 0 0 990000") ++ ended (codes "acme step a 12")
    ++ ended (codes "beta put b 1 x 99") ++ ended (codes "beta done b 900000") ++ ended (codes "beta collect 0 0 990000") ++ ended (codes "acme show a 1"))
    ≡ Written (ended (codes "acme opened") ++ ended (codes "acme context 1") ++ ended (codes "acme opened") ++ ended (codes "acme context 1")
    ++ ended (codes "beta opened") ++ ended (codes "beta context 1") ++ ended (codes "beta started") ++ ended (codes "beta stored x 1.0")
    ++ ended (codes "beta removed 0") ++ ended (codes "acme started") ++ ended (codes "beta started") ++ ended (codes "beta stored x 2.0")
    ++ ended (codes "beta removed 0") ++ ended (codes "acme working") ++ ended (codes "beta started") ++ ended (codes "beta stored x 3.0")
    ++ ended (codes "beta removed 0") ++ ended (codes "acme started") ++ ended (codes "beta started") ++ ended (codes "beta stored x 4.0")
    ++ ended (codes "beta removed 0") ++ ended (codes "acme stored x 1.0") ++ ended (codes "beta started") ++ ended (codes "beta stored x 5.0")
    ++ ended (codes "beta removed 0") ++ ended (codes "acme started") ++ ended (codes "beta started") ++ ended (codes "beta stored x 6.0")
    ++ ended (codes "beta removed 0") ++ ended (codes "acme stored y 2.1") ++ ended (codes "beta started") ++ ended (codes "beta stored x 7.0")
    ++ ended (codes "beta removed 0") ++ ended (codes "acme working") ++ ended (codes "beta started") ++ ended (codes "beta stored x 8.0")
    ++ ended (codes "beta removed 0") ++ ended (codes "acme x=10@1.0 y=20@2.1") ++ ended (codes "beta started") ++ ended (codes "beta stored x 9.0")
    ++ ended (codes "beta removed 0") ++ ended (codes "acme all x:1.0,y:2.1 near y:2.1"))
unfolding texts_on_literals
another_tenant_between_the_rounds = refl

-- the same replies with another tenant collecting before each line
another_tenants_collection_changes_nothing :
    script_out (
    ended (codes "cluster 1 1 5000 1") ++ acme_line ++ beta_line ++ ended (codes "begin") ++ ended (codes "beta collect 0 0 990000")
    ++ ended (codes "acme open a 0") ++ ended (codes "beta collect 0 0 990000") ++ ended (codes "acme ctx a") ++ ended (codes "beta collect 0 0 990000")
    ++ ended (codes "acme put a 1 x 10") ++ ended (codes "beta collect 0 0 990000") ++ ended (codes "acme done a 0") ++ ended (codes "beta collect 0 0 990000")
    ++ ended (codes "acme put a 1 x 20") ++ ended (codes "beta collect 0 0 990000") ++ ended (codes "acme done a 100") ++ ended (codes "beta collect 0 0 990000")
    ++ ended (codes "acme collect 0 0 5100") ++ ended (codes "beta collect 0 0 990000") ++ ended (codes "acme collect 0 0 5101")
    ++ ended (codes "beta collect 0 0 990000") ++ ended (codes "acme collect 0 0 5101"))
    ≡ Written (ended (codes "beta removed 0") ++ ended (codes "acme opened") ++ ended (codes "beta removed 0") ++ ended (codes "acme context 1")
    ++ ended (codes "beta removed 0") ++ ended (codes "acme started") ++ ended (codes "beta removed 0") ++ ended (codes "acme stored x 1.0")
    ++ ended (codes "beta removed 0") ++ ended (codes "acme started") ++ ended (codes "beta removed 0") ++ ended (codes "acme stored x 2.0")
    ++ ended (codes "beta removed 0") ++ ended (codes "acme removed 0") ++ ended (codes "beta removed 0") ++ ended (codes "acme removed 1")
    ++ ended (codes "beta removed 0") ++ ended (codes "acme removed 0"))
unfolding texts_on_literals
another_tenants_collection_changes_nothing = refl

-- at the limit of versions a collection removes nothing, and the one version stays readable
collecting_does_not_remove_the_only_version :
    script_out (
    ended (codes "cluster 1 1 5000 1") ++ ended (codes "tenant acme 00000000-0000-0000-0000-000000000001 0 1 10000 10 4 20 8 1000") ++ beta_line
    ++ ended (codes "begin") ++ ended (codes "acme open a 0") ++ ended (codes "acme ctx a") ++ ended (codes "beta open a 0") ++ ended (codes "beta ctx a")
    ++ ended (codes "beta put a 1 x 10") ++ ended (codes "beta done a 0") ++ ended (codes "acme put a 1 x 10") ++ ended (codes "acme done a 0")
    ++ ended (codes "acme put a 1 x 11") ++ ended (codes "acme done a 0") ++ ended (codes "acme collect 0 0 999999") ++ ended (codes "acme put a 1 x 12")
    ++ ended (codes "acme done a 0") ++ ended (codes "acme get a 1 x") ++ ended (codes "acme done a 0"))
    ≡ Written (ended (codes "acme opened") ++ ended (codes "acme context 1") ++ ended (codes "beta opened") ++ ended (codes "beta context 1")
    ++ ended (codes "beta started") ++ ended (codes "beta stored x 1.0") ++ ended (codes "acme started") ++ ended (codes "acme stored x 1.0")
    ++ ended (codes "acme started") ++ ended (codes "acme E12") ++ ended (codes "acme removed 0") ++ ended (codes "acme started") ++ ended (codes "acme E12")
    ++ ended (codes "acme started") ++ ended (codes "acme x=10@1.0"))
unfolding texts_on_literals
collecting_does_not_remove_the_only_version = refl

-- the same with no restart allowed
no_restart_allowed_is_an_overrun :
    script_out (
    ended (codes "cluster 1 2 5000 0") ++ acme_line ++ beta_line ++ ended (codes "begin") ++ ended (codes "acme open a 0") ++ ended (codes "acme ctx a")
    ++ ended (codes "acme open b 0") ++ ended (codes "acme ctx b") ++ ended (codes "acme get a 1 x y") ++ ended (codes "acme step a 10")
    ++ ended (codes "acme put b 1 x 10") ++ ended (codes "acme done b 10") ++ ended (codes "acme put b 1 y 20") ++ ended (codes "acme done b 10")
    ++ ended (codes "acme put b 1 x 11") ++ ended (codes "acme done b 20") ++ ended (codes "acme collect 0 0 5021") ++ ended (codes "acme step a 11")
    ++ ended (codes "acme step a 12") ++ ended (codes "acme step a 13"))
    ≡ Written (ended (codes "acme opened") ++ ended (codes "acme context 1") ++ ended (codes "acme opened") ++ ended (codes "acme context 1")
    ++ ended (codes "acme started") ++ ended (codes "acme working") ++ ended (codes "acme started") ++ ended (codes "acme stored x 1.0")
    ++ ended (codes "acme started") ++ ended (codes "acme stored y 2.1") ++ ended (codes "acme started") ++ ended (codes "acme stored x 3.0")
    ++ ended (codes "acme removed 1") ++ ended (codes "acme working") ++ ended (codes "acme E18") ++ ended (codes "acme E06"))
unfolding texts_on_literals
no_restart_allowed_is_an_overrun = refl
