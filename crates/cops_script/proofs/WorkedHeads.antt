-- Heads and first lines: scripts and what is written for them, computed from their bytes.
use Rattle.std.proofs.Common.{◌≡◌, [], ◌++◌, refl}
use Rattle.std.specs.Prelude.{codes}
use Rattle.cops_types.specs.OnLiterals.{texts_on_literals}
use Rattle.cops_script.specs.Script.{Written, BadConfig, script_out}
use Rattle.cops_script.proofs.ScriptWords.{ended, acme_line, beta_line}

-- key and value bytes are counted against the byte quota
a_byte_quota_counts_key_and_value :
    script_out (
    ended (codes "cluster 1 1 5000 1") ++ ended (codes "tenant acme 00000000-0000-0000-0000-000000000001 0 100 5 10 4 20 8 1000") ++ beta_line
    ++ ended (codes "begin") ++ ended (codes "acme open a 0") ++ ended (codes "acme ctx a") ++ ended (codes "acme put a 1 x 10") ++ ended (codes "acme done a 0")
    ++ ended (codes "acme put a 1 y 10") ++ ended (codes "acme done a 0"))
    ≡ Written (ended (codes "acme opened") ++ ended (codes "acme context 1") ++ ended (codes "acme started") ++ ended (codes "acme stored x 1.0")
    ++ ended (codes "acme started") ++ ended (codes "acme E13"))
unfolding texts_on_literals
a_byte_quota_counts_key_and_value = refl

-- the audit quota ends the request with its fault
a_full_audit_refuses_the_next_call :
    script_out (
    ended (codes "cluster 1 1 5000 1") ++ ended (codes "tenant acme 00000000-0000-0000-0000-000000000001 0 100 10000 10 4 20 8 2") ++ beta_line
    ++ ended (codes "begin") ++ ended (codes "acme open a 0") ++ ended (codes "acme ctx a") ++ ended (codes "acme put a 1 x 1") ++ ended (codes "acme done a 0")
    ++ ended (codes "acme put a 1 x 2") ++ ended (codes "acme done a 0") ++ ended (codes "acme put a 1 x 3") ++ ended (codes "acme step a 0")
    ++ ended (codes "acme step a 0"))
    ≡ Written (ended (codes "acme opened") ++ ended (codes "acme context 1") ++ ended (codes "acme started") ++ ended (codes "acme stored x 1.0")
    ++ ended (codes "acme started") ++ ended (codes "acme stored x 2.0") ++ ended (codes "acme started") ++ ended (codes "acme E17") ++ ended (codes "acme E06"))
unfolding texts_on_literals
a_full_audit_refuses_the_next_call = refl

-- a head that ends after its first line is bad at the second
a_head_that_ends_early :
    script_out (
    ended (codes "cluster 1 1 5000 1"))
    ≡ BadConfig 2
unfolding texts_on_literals
a_head_that_ends_early = refl

-- two tenants with one token, written in two forms
a_repeated_token_is_a_bad_line :
    script_out (
    ended (codes "cluster 1 1 5000 1") ++ acme_line ++ ended (codes "tenant beta 00000000000000000000000000000001 0 100 10000 10 4 20 8 1000")
    ++ ended (codes "begin") ++ ended (codes "acme open a 0"))
    ≡ BadConfig 3
unfolding texts_on_literals
a_repeated_token_is_a_bad_line = refl

-- one tenant at its limit of versions is refused, the other never notices
a_version_quota_is_one_tenants_own :
    script_out (
    ended (codes "cluster 1 1 5000 1") ++ ended (codes "tenant acme 00000000-0000-0000-0000-000000000001 0 1 10000 10 4 20 8 1000") ++ beta_line
    ++ ended (codes "begin") ++ ended (codes "acme open a 0") ++ ended (codes "acme ctx a") ++ ended (codes "beta open a 0") ++ ended (codes "beta ctx a")
    ++ ended (codes "beta put a 1 x 10") ++ ended (codes "beta done a 0") ++ ended (codes "acme put a 1 x 10") ++ ended (codes "acme done a 0")
    ++ ended (codes "acme put a 1 x 11") ++ ended (codes "acme done a 0") ++ ended (codes "acme put a 1 x 12") ++ ended (codes "acme done a 0")
    ++ ended (codes "acme get a 1 x") ++ ended (codes "acme done a 0"))
    ≡ Written (ended (codes "acme opened") ++ ended (codes "acme context 1") ++ ended (codes "beta opened") ++ ended (codes "beta context 1")
    ++ ended (codes "beta started") ++ ended (codes "beta stored x 1.0") ++ ended (codes "acme started") ++ ended (codes "acme stored x 1.0")
    ++ ended (codes "acme started") ++ ended (codes "acme E12") ++ ended (codes "acme started") ++ ended (codes "acme E12") ++ ended (codes "acme started")
    ++ ended (codes "acme x=10@1.0"))
unfolding texts_on_literals
a_version_quota_is_one_tenants_own = refl

-- a key that was never put reads as none at no version
an_absent_key_reads_as_none :
    script_out (
    ended (codes "cluster 1 1 5000 1") ++ acme_line ++ ended (codes "begin") ++ ended (codes "acme open a 0") ++ ended (codes "acme ctx a")
    ++ ended (codes "acme get a 1 x") ++ ended (codes "acme step a 0"))
    ≡ Written (ended (codes "acme opened") ++ ended (codes "acme context 1") ++ ended (codes "acme started") ++ ended (codes "acme x=none@0.0"))
unfolding texts_on_literals
an_absent_key_reads_as_none = refl

-- two tenants that put in turns each count from one
each_tenant_has_its_own_clock :
    script_out (
    ended (codes "cluster 1 1 5000 1") ++ acme_line ++ beta_line ++ ended (codes "begin") ++ ended (codes "acme open a 0") ++ ended (codes "acme ctx a")
    ++ ended (codes "beta open a 0") ++ ended (codes "beta ctx a") ++ ended (codes "acme put a 1 x 10") ++ ended (codes "acme done a 0")
    ++ ended (codes "beta put a 1 x 10") ++ ended (codes "beta done a 0") ++ ended (codes "acme put a 1 x 10") ++ ended (codes "acme done a 0")
    ++ ended (codes "beta put a 1 x 10") ++ ended (codes "beta done a 0"))
    ≡ Written (ended (codes "acme opened") ++ ended (codes "acme context 1") ++ ended (codes "beta opened") ++ ended (codes "beta context 1")
    ++ ended (codes "acme started") ++ ended (codes "acme stored x 1.0") ++ ended (codes "beta started") ++ ended (codes "beta stored x 1.0")
    ++ ended (codes "acme started") ++ ended (codes "acme stored x 2.0") ++ ended (codes "beta started") ++ ended (codes "beta stored x 2.0"))
unfolding texts_on_literals
each_tenant_has_its_own_clock = refl

-- unknown tenants, empty and malformed lines, and a last line without its newline
lines_of_no_tenant_and_of_no_form :
    script_out (
    ended (codes "cluster 1 1 5000 1") ++ acme_line ++ beta_line ++ ended (codes "begin") ++ ended (codes "zeta open a 0") ++ ended ([])
    ++ ended (codes "acme fly") ++ ended (codes "acme") ++ ended (codes "acme put a 1 X 10") ++ ended (codes "acme put a 1 x 10") ++ (codes "acme open a 0"))
    ≡ Written (ended (codes "- E02") ++ ended (codes "- E02") ++ ended (codes "acme E01") ++ ended (codes "acme E01") ++ ended (codes "acme E10")
    ++ ended (codes "acme E03") ++ ended (codes "acme opened"))
unfolding texts_on_literals
lines_of_no_tenant_and_of_no_form = refl

-- a script that ends with its head
nothing_after_the_head_gives_no_output :
    script_out (
    ended (codes "cluster 1 1 5000 1") ++ acme_line ++ beta_line ++ ended (codes "begin"))
    ≡ Written ([])
unfolding texts_on_literals
nothing_after_the_head_gives_no_output = refl

-- a tenant opens a session and a context, puts a key and reads it back
one_tenant_reads_its_own_write :
    script_out (
    ended (codes "cluster 1 1 5000 1") ++ acme_line ++ ended (codes "begin") ++ ended (codes "acme open a 0") ++ ended (codes "acme ctx a")
    ++ ended (codes "acme put a 1 x 10") ++ ended (codes "acme step a 0") ++ ended (codes "acme get a 1 x") ++ ended (codes "acme step a 1"))
    ≡ Written (ended (codes "acme opened") ++ ended (codes "acme context 1") ++ ended (codes "acme started") ++ ended (codes "acme stored x 1.0")
    ++ ended (codes "acme started") ++ ended (codes "acme x=10@1.0"))
unfolding texts_on_literals
one_tenant_reads_its_own_write = refl

-- taken name, missing data centre, missing context, idle and busy session
refusals_of_the_first_lines :
    script_out (
    ended (codes "cluster 1 1 5000 1") ++ acme_line ++ ended (codes "begin") ++ ended (codes "acme open a 0") ++ ended (codes "acme ctx a")
    ++ ended (codes "acme open a 0") ++ ended (codes "acme open b 1") ++ ended (codes "acme put a 2 x 1") ++ ended (codes "acme step a 0")
    ++ ended (codes "acme put a 1 x 1") ++ ended (codes "acme ctx a"))
    ≡ Written (ended (codes "acme opened") ++ ended (codes "acme context 1") ++ ended (codes "acme E04") ++ ended (codes "acme E22") ++ ended (codes "acme E07")
    ++ ended (codes "acme E06") ++ ended (codes "acme started") ++ ended (codes "acme E05"))
unfolding texts_on_literals
refusals_of_the_first_lines = refl

-- the second session is refused
the_actor_quota_counts_sessions :
    script_out (
    ended (codes "cluster 1 1 5000 1") ++ ended (codes "tenant acme 00000000-0000-0000-0000-000000000001 0 100 10000 10 4 20 1 1000") ++ beta_line
    ++ ended (codes "begin") ++ ended (codes "acme open a 0") ++ ended (codes "acme open b 0"))
    ≡ Written (ended (codes "acme opened") ++ ended (codes "acme E25"))
unfolding texts_on_literals
the_actor_quota_counts_sessions = refl

-- the last clock is issued once, the next put is refused
the_greatest_clock_is_reached_and_refused :
    script_out (
    ended (codes "cluster 1 1 5000 1") ++ ended (codes "tenant acme 00000000-0000-0000-0000-000000000001 281474976710654 100 10000 10 4 20 8 1000")
    ++ beta_line ++ ended (codes "begin") ++ ended (codes "acme open a 0") ++ ended (codes "acme ctx a") ++ ended (codes "acme put a 1 x 10")
    ++ ended (codes "acme done a 0") ++ ended (codes "acme put a 1 x 11") ++ ended (codes "acme done a 0") ++ ended (codes "acme get a 1 x")
    ++ ended (codes "acme done a 0"))
    ≡ Written (ended (codes "acme opened") ++ ended (codes "acme context 1") ++ ended (codes "acme started") ++ ended (codes "acme stored x 281474976710655.0")
    ++ ended (codes "acme started") ++ ended (codes "acme E16") ++ ended (codes "acme started") ++ ended (codes "acme x=10@281474976710655.0"))
unfolding texts_on_literals
the_greatest_clock_is_reached_and_refused = refl

-- seventeen shards place the key on the second
more_shards_than_the_old_layout_had :
    script_out (
    ended (codes "cluster 1 17 5000 1") ++ acme_line ++ beta_line ++ ended (codes "begin") ++ ended (codes "acme open a 0") ++ ended (codes "acme ctx a")
    ++ ended (codes "acme put a 1 x 10") ++ ended (codes "acme done a 0"))
    ≡ Written (ended (codes "acme opened") ++ ended (codes "acme context 1") ++ ended (codes "acme started") ++ ended (codes "acme stored x 1.1"))
unfolding texts_on_literals
more_shards_than_the_old_layout_had = refl

-- the first line asks for more shards than there may be
too_many_shards :
    script_out (
    ended (codes "cluster 1 65 5000 1") ++ acme_line ++ beta_line ++ ended (codes "begin") ++ ended (codes "acme open a 0") ++ ended (codes "acme ctx a")
    ++ ended (codes "acme put a 1 x 10") ++ ended (codes "acme step a 0") ++ ended (codes "acme get a 1 x") ++ ended (codes "acme step a 1"))
    ≡ BadConfig 1
unfolding texts_on_literals
too_many_shards = refl

-- a head may have no tenant: then each line names none
a_head_without_tenants :
    script_out (
    ended (codes "cluster 1 1 5000 1") ++ ended (codes "begin") ++ ended (codes "acme open a 0") ++ ended (codes "begin"))
    ≡ Written (ended (codes "- E02") ++ ended (codes "- E02"))
unfolding texts_on_literals
a_head_without_tenants = refl
