-- Carriers: scripts and what is written for them, computed from their bytes.
use Rattle.std.proofs.Common.{◌≡◌, ◌++◌, refl}
use Rattle.std.specs.Prelude.{codes}
use Rattle.cops_types.specs.OnLiterals.{texts_on_literals}
use Rattle.cops_script.specs.Script.{Written, script_out}
use Rattle.cops_script.proofs.ScriptWords.{ended, acme_line, beta_line}

-- an entry is committed elsewhere only after what it depends on
a_carrier_waits_for_a_dependency :
    script_out (
    ended (codes "cluster 2 2 5000 1") ++ acme_line ++ beta_line ++ ended (codes "begin") ++ ended (codes "acme open a 0") ++ ended (codes "acme ctx a")
    ++ ended (codes "acme open b 1") ++ ended (codes "acme ctx b") ++ ended (codes "acme put a 1 x 10") ++ ended (codes "acme done a 0")
    ++ ended (codes "acme put a 1 y 20") ++ ended (codes "acme done a 0") ++ ended (codes "acme carry c 0 1 1") ++ ended (codes "acme done c 5")
    ++ ended (codes "acme carry c 0 0 1") ++ ended (codes "acme done c 5") ++ ended (codes "acme carry c 0 1 1") ++ ended (codes "acme done c 5")
    ++ ended (codes "acme carry c 0 1 1") ++ ended (codes "acme done c 5") ++ ended (codes "acme get b 1 x y") ++ ended (codes "acme done b 6"))
    ≡ Written (ended (codes "acme opened") ++ ended (codes "acme context 1") ++ ended (codes "acme opened") ++ ended (codes "acme context 1")
    ++ ended (codes "acme started") ++ ended (codes "acme stored x 1.0") ++ ended (codes "acme started") ++ ended (codes "acme stored y 2.1")
    ++ ended (codes "acme started") ++ ended (codes "acme waits x 1.0") ++ ended (codes "acme started") ++ ended (codes "acme committed x 1.0 acked")
    ++ ended (codes "acme started") ++ ended (codes "acme committed y 2.1 acked") ++ ended (codes "acme started") ++ ended (codes "acme nothing")
    ++ ended (codes "acme started") ++ ended (codes "acme x=10@1.0 y=20@2.1"))
unfolding texts_on_literals
a_carrier_waits_for_a_dependency = refl

-- reading two versions of a key keeps what each depends on
a_context_keeps_both_histories :
    script_out (
    ended (codes "cluster 2 1 5000 1") ++ acme_line ++ beta_line ++ ended (codes "begin") ++ ended (codes "acme open a 0") ++ ended (codes "acme ctx a")
    ++ ended (codes "acme open b 1") ++ ended (codes "acme ctx b") ++ ended (codes "acme put a 1 p 1") ++ ended (codes "acme done a 0")
    ++ ended (codes "acme put a 1 x 10") ++ ended (codes "acme done a 0") ++ ended (codes "acme put b 1 q 2") ++ ended (codes "acme done b 0")
    ++ ended (codes "acme put b 1 x 20") ++ ended (codes "acme done b 0") ++ ended (codes "acme open r 0") ++ ended (codes "acme ctx r")
    ++ ended (codes "acme get r 1 x") ++ ended (codes "acme done r 5") ++ ended (codes "acme carry c 1 0 0") ++ ended (codes "acme done c 5")
    ++ ended (codes "acme carry c 1 0 0") ++ ended (codes "acme done c 5") ++ ended (codes "acme get r 1 x") ++ ended (codes "acme done r 6")
    ++ ended (codes "acme show r 1") ++ ended (codes "acme put r 1 z 30") ++ ended (codes "acme done r 6") ++ ended (codes "acme show r 1"))
    ≡ Written (ended (codes "acme opened") ++ ended (codes "acme context 1") ++ ended (codes "acme opened") ++ ended (codes "acme context 1")
    ++ ended (codes "acme started") ++ ended (codes "acme stored p 1.0") ++ ended (codes "acme started") ++ ended (codes "acme stored x 2.0")
    ++ ended (codes "acme started") ++ ended (codes "acme stored q 1.1") ++ ended (codes "acme started") ++ ended (codes "acme stored x 2.1")
    ++ ended (codes "acme opened") ++ ended (codes "acme context 1") ++ ended (codes "acme started") ++ ended (codes "acme x=10@2.0")
    ++ ended (codes "acme started") ++ ended (codes "acme committed q 1.1 acked") ++ ended (codes "acme started") ++ ended (codes "acme committed x 2.1 acked")
    ++ ended (codes "acme started") ++ ended (codes "acme x=20@2.1") ++ ended (codes "acme all p:1.0,q:1.1,x:2.1 near x:2.0,x:2.1")
    ++ ended (codes "acme started") ++ ended (codes "acme stored z 3.0") ++ ended (codes "acme all p:1.0,q:1.1,x:2.1,z:3.0 near z:3.0"))
unfolding texts_on_literals
a_context_keeps_both_histories = refl

-- a commit refused for its quota ends the carrier and keeps the entry
a_full_destination_keeps_the_entry_queued :
    script_out (
    ended (codes "cluster 2 1 5000 1") ++ ended (codes "tenant acme 00000000-0000-0000-0000-000000000001 0 1 10000 10 4 20 8 1000") ++ beta_line
    ++ ended (codes "begin") ++ ended (codes "acme open a 0") ++ ended (codes "acme ctx a") ++ ended (codes "acme put a 1 x 1") ++ ended (codes "acme done a 0")
    ++ ended (codes "acme open b 1") ++ ended (codes "acme ctx b") ++ ended (codes "acme put b 1 z 1") ++ ended (codes "acme done b 0")
    ++ ended (codes "acme carry c 0 0 1") ++ ended (codes "acme done c 5") ++ ended (codes "acme carry c 0 0 1"))
    ≡ Written (ended (codes "acme opened") ++ ended (codes "acme context 1") ++ ended (codes "acme started") ++ ended (codes "acme stored x 1.0")
    ++ ended (codes "acme opened") ++ ended (codes "acme context 1") ++ ended (codes "acme started") ++ ended (codes "acme stored z 1.1")
    ++ ended (codes "acme started") ++ ended (codes "acme E12") ++ ended (codes "acme started"))
unfolding texts_on_literals
a_full_destination_keeps_the_entry_queued = refl

-- the outbox quota refuses a put until the queue is carried
a_full_outbox_refuses_until_it_is_carried :
    script_out (
    ended (codes "cluster 2 1 5000 1") ++ ended (codes "tenant acme 00000000-0000-0000-0000-000000000001 0 100 10000 1 4 20 8 1000") ++ beta_line
    ++ ended (codes "begin") ++ ended (codes "acme open a 0") ++ ended (codes "acme ctx a") ++ ended (codes "acme put a 1 x 1") ++ ended (codes "acme done a 0")
    ++ ended (codes "acme put a 1 y 1") ++ ended (codes "acme done a 0") ++ ended (codes "acme carry c 0 0 1") ++ ended (codes "acme done c 5")
    ++ ended (codes "acme put a 1 y 1") ++ ended (codes "acme done a 0"))
    ≡ Written (ended (codes "acme opened") ++ ended (codes "acme context 1") ++ ended (codes "acme started") ++ ended (codes "acme stored x 1.0")
    ++ ended (codes "acme started") ++ ended (codes "acme E14") ++ ended (codes "acme started") ++ ended (codes "acme committed x 1.0 acked")
    ++ ended (codes "acme started") ++ ended (codes "acme stored y 2.0"))
unfolding texts_on_literals
a_full_outbox_refuses_until_it_is_carried = refl

-- an acknowledgement of an entry that left the queue leaves the next one
a_late_acknowledgement_takes_nothing_else :
    script_out (
    ended (codes "cluster 2 1 5000 1") ++ acme_line ++ beta_line ++ ended (codes "begin") ++ ended (codes "acme open a 0") ++ ended (codes "acme ctx a")
    ++ ended (codes "acme put a 1 x 10") ++ ended (codes "acme done a 0") ++ ended (codes "acme put a 1 y 20") ++ ended (codes "acme done a 0")
    ++ ended (codes "acme carry c 0 0 1") ++ ended (codes "acme carry d 0 0 1") ++ ended (codes "acme step c 5") ++ ended (codes "acme step d 5")
    ++ ended (codes "acme step c 5") ++ ended (codes "acme step c 5") ++ ended (codes "acme carry e 0 0 1") ++ ended (codes "acme step e 5")
    ++ ended (codes "acme step e 5") ++ ended (codes "acme step d 5") ++ ended (codes "acme step e 5") ++ ended (codes "acme step d 5")
    ++ ended (codes "acme step e 5"))
    ≡ Written (ended (codes "acme opened") ++ ended (codes "acme context 1") ++ ended (codes "acme started") ++ ended (codes "acme stored x 1.0")
    ++ ended (codes "acme started") ++ ended (codes "acme stored y 2.0") ++ ended (codes "acme started") ++ ended (codes "acme started")
    ++ ended (codes "acme working") ++ ended (codes "acme working") ++ ended (codes "acme working") ++ ended (codes "acme committed x 1.0 acked")
    ++ ended (codes "acme started") ++ ended (codes "acme working") ++ ended (codes "acme working") ++ ended (codes "acme working")
    ++ ended (codes "acme working") ++ ended (codes "acme already x 1.0 notfront") ++ ended (codes "acme committed y 2.0 acked"))
unfolding texts_on_literals
a_late_acknowledgement_takes_nothing_else = refl

-- the same, and a carrier within one data centre
refusals_of_a_session_and_a_carrier :
    script_out (
    ended (codes "cluster 1 1 5000 1") ++ acme_line ++ beta_line ++ ended (codes "begin") ++ ended (codes "acme open a 0") ++ ended (codes "acme ctx a")
    ++ ended (codes "acme drop a 1") ++ ended (codes "acme put a 1 x 10") ++ ended (codes "acme ctx a") ++ ended (codes "acme get a 2 x")
    ++ ended (codes "acme ctx a") ++ ended (codes "acme done a 0") ++ ended (codes "acme get a 2 x x") ++ ended (codes "acme step a 0")
    ++ ended (codes "acme step b 0") ++ ended (codes "acme open a 0") ++ ended (codes "acme open b 1") ++ ended (codes "acme carry c 0 0 0"))
    ≡ Written (ended (codes "acme opened") ++ ended (codes "acme context 1") ++ ended (codes "acme dropped") ++ ended (codes "acme E07")
    ++ ended (codes "acme context 2") ++ ended (codes "acme started") ++ ended (codes "acme E05") ++ ended (codes "acme x=none@0.0") ++ ended (codes "acme E24")
    ++ ended (codes "acme E06") ++ ended (codes "acme E03") ++ ended (codes "acme E04") ++ ended (codes "acme E22") ++ ended (codes "acme E22"))
unfolding texts_on_literals
refusals_of_a_session_and_a_carrier = refl

-- two data centres that put the same key agree after replication
the_last_writer_wins_in_both_places :
    script_out (
    ended (codes "cluster 2 1 5000 1") ++ acme_line ++ beta_line ++ ended (codes "begin") ++ ended (codes "acme open a 0") ++ ended (codes "acme ctx a")
    ++ ended (codes "acme open b 1") ++ ended (codes "acme ctx b") ++ ended (codes "acme put a 1 x 10") ++ ended (codes "acme done a 0")
    ++ ended (codes "acme put b 1 x 20") ++ ended (codes "acme done b 0") ++ ended (codes "acme carry c 0 0 1") ++ ended (codes "acme done c 5")
    ++ ended (codes "acme carry c 1 0 0") ++ ended (codes "acme done c 5") ++ ended (codes "acme get a 1 x") ++ ended (codes "acme done a 0")
    ++ ended (codes "acme get b 1 x") ++ ended (codes "acme done b 0"))
    ≡ Written (ended (codes "acme opened") ++ ended (codes "acme context 1") ++ ended (codes "acme opened") ++ ended (codes "acme context 1")
    ++ ended (codes "acme started") ++ ended (codes "acme stored x 1.0") ++ ended (codes "acme started") ++ ended (codes "acme stored x 1.1")
    ++ ended (codes "acme started") ++ ended (codes "acme committed x 1.0 acked") ++ ended (codes "acme started") ++ ended (codes "acme committed x 1.1 acked")
    ++ ended (codes "acme started") ++ ended (codes "acme x=20@1.1") ++ ended (codes "acme started") ++ ended (codes "acme x=20@1.1"))
unfolding texts_on_literals
the_last_writer_wins_in_both_places = refl

-- the second carrier finds the entry committed and acknowledged
two_carriers_of_one_stream :
    script_out (
    ended (codes "cluster 2 1 5000 1") ++ acme_line ++ beta_line ++ ended (codes "begin") ++ ended (codes "acme open a 0") ++ ended (codes "acme ctx a")
    ++ ended (codes "acme put a 1 x 10") ++ ended (codes "acme done a 0") ++ ended (codes "acme carry c 0 0 1") ++ ended (codes "acme carry d 0 0 1")
    ++ ended (codes "acme step c 5") ++ ended (codes "acme step d 5") ++ ended (codes "acme step c 5") ++ ended (codes "acme step c 5")
    ++ ended (codes "acme step d 5") ++ ended (codes "acme step d 5") ++ ended (codes "acme step d 5"))
    ≡ Written (ended (codes "acme opened") ++ ended (codes "acme context 1") ++ ended (codes "acme started") ++ ended (codes "acme stored x 1.0")
    ++ ended (codes "acme started") ++ ended (codes "acme started") ++ ended (codes "acme working") ++ ended (codes "acme working")
    ++ ended (codes "acme working") ++ ended (codes "acme committed x 1.0 acked") ++ ended (codes "acme working") ++ ended (codes "acme already x 1.0 notfront")
    ++ ended (codes "acme E03"))
unfolding texts_on_literals
two_carriers_of_one_stream = refl
