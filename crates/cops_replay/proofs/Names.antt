-- The names of other crates and of the definitions that proofs cite, passed on from one place. Declares nothing.
pub use Rattle.std.proofs.Common.{[], All, ap, append-nil, append_assoc, arith, Bool, codes, cond, decimal, drop, Err, false, flat_map, get_or, IfErr, IfSome, if◌then◌else◌, inl, inr, IsFalse, IsTrue, length, length-append, length-take, List, map, map-id, max, nat_eq, nat_le, nat_lt, None, not, Ok, OnErr, OnOk, Option, refl, replicate, Result, set, set-set, slice_get, slice_index, slice_index_or, Some, subst, suc, sym, take, true, true≢false, zero, ℕ, ◌%◌, ◌&&◌, ◌*◌, ◌++◌, ◌+◌, ◌-◌, ◌/◌, ◌<◌, ◌==◌, ◌^◌, ◌||◌, ◌↔◌, ◌∙◌, ◌∷◌, ◌≡◌, ◌≢◌, ◌≤◌, ◌⊎◌}
pub use Rattle.std.specs.Borrow.{Bor}
pub use Rattle.std.specs.Io.KnownBytes.{Appends, Keeps}
pub use Rattle.std.specs.List.{AllByRecursion, AllPass, fold, join_with_byte, list_all, list_any, position_or_len, range_with_len}
pub use Rattle.std.specs.Option.{is_none, is_some, option_and_then, option_map, option_map_or}
pub use Rattle.std.specs.Ordering.{on}
pub use Rattle.std.specs.Prelude.{IfOk, ⊤}
pub use Rattle.std.specs.Str.{bytes_eq}
pub use Rattle.std.proofs.KnownBytes.{Appends-nil, Appends-trans}
pub use Rattle.std.proofs.Math.ListN.{length-set}
pub use Rattle.std.proofs.Math.Nat.{div-lt_iff_lt-mul, mod-lt}
pub use Rattle.std.proofs.lemmas.Bool.Decides.{Decides-eqb, nat_tests}
pub use Rattle.std.proofs.lemmas.Fmt.{length-decimal-le}
pub use Rattle.std.proofs.lemmas.Grind.{flat_map-append, get_or-set_at}
pub use Rattle.std.proofs.lemmas.List.{drop_all, drop_more, get_or-replicate, get_or-set_other, get_or-set_same, get_or_append_left, get_or_at, get_or_push, length-map, length-replicate, map-append, set-get_or, set_at, take_all}
pub use Rattle.std.proofs.lemmas.List.Elements.{filter-append, recursion_from_All}
pub use Rattle.std.proofs.lemmas.List.Folds.{flat_map-map}
pub use Rattle.std.proofs.lemmas.List.FromFn.{get_or-range_with_len, length-range_with_len, map-range_with_len_more}
pub use Rattle.std.proofs.lemmas.List.Sums.{AllPass-from_list_all}
pub use Rattle.std.proofs.lemmas.Nat.{div-add-mod'}
pub use Rattle.std.proofs.lemmas.Option.{cond_some, IfSome_then, slice_get-get_or, slice_get-map, slice_get_within}
pub use Rattle.std.proofs.lemmas.Result.{err_from_is_err_and, IfErr-weaker, MatchResult-weaker, on_err_weaker, on_ok_weaker}
pub use Rattle.uuid.proofs.RoundTrips.{parses_hyphenated}
pub use Rattle.uuid.proofs.TextLemmas.{by_index_at, by_index_length, nibble_small}
pub use Rattle.uuid.specs.Text.{by_index, byte_of_digits, digit_place, digits_of, has_hyphens, has_urn_prefix, hex_digit, hyphen, hyphenated_text, is_hex_digit, is_hyphen_place, lower, nibble, parsed, parsed_braced, parsed_hyphenated, parsed_simple, parsed_urn}
pub use Rattle.memchr.specs.Find.{is_byte, Nowhere}
pub use Rattle.cops_types.proofs.BegunSlots.{apart_behind, apart_more}
pub use Rattle.cops_types.proofs.Elements.{Every-append, Every-at, Every-filter, Every-from, Every-map, Every-weaker, or_right, slice_get-Among}
pub use Rattle.cops_types.proofs.FrontLemmas.{front_after-finds, front_after-is}
pub use Rattle.cops_types.proofs.HeadLemmas.{cluster_in-is, sizes_fit, tenant_fits, tenant_in-is, tenant_in_to-finds, tenant_in_to-is}
pub use Rattle.cops_types.proofs.HeadLengths.{front_after-short, name-short, name_of_good, tenant-short as todays-short}
pub use Rattle.cops_types.proofs.HeadReading.{clock_within, is_tenant-made, quota_of_tenant, token_is_word}
pub use Rattle.cops_types.proofs.OpenSlotLemmas.{apart_left, apart_put, both_fail, left_fails, right_fails, swapped}
pub use Rattle.cops_types.proofs.WordLemmas.{and, both, bytes_from_test, colon_foreign, comma_foreign, decimal_lacks, dot_foreign, first_word-more, IsForeign, key_lacks, Lacks, lacks_from_test, name_lacks, no_number, number_of-decimal, number_written, parts-last, parts-more, parts_back, parts_joined, same_bytes, same_value, some_part, space_foreign}
pub use Rattle.cops_types.specs.Counts.{counted, HasRisen}
pub use Rattle.cops_types.specs.FaultText.{fault_text}
pub use Rattle.cops_types.specs.Head.{AtStart, BadAt, Begun, Ends, Follows, Front, front_after, head_of, head_with, HeadReading, is_begun, Leads, may_join, reading_from, Whole, with_tenant, Within}
pub use Rattle.cops_types.specs.HeadLines.{are_sizes, begin_line, cluster_in, cluster_line, is_distinct, is_tenant, is_tenant_to, IsClusterLine, IsTenantLineTo, most_tenants, tenant_in, tenant_in_to, tenant_line}
pub use Rattle.cops_types.specs.HeadReader.{said_at, still_open}
pub use Rattle.cops_types.specs.Key.{is_key, is_name, key_cmp}
pub use Rattle.cops_types.specs.Layout.{NODES}
pub use Rattle.cops_types.specs.Lines.{cut_line, cut_lines, lines_of, onto_first}
pub use Rattle.cops_types.specs.OldHead.{has_clocks_to, last_old_clock, old_front_after, old_front_with, old_reading_from, old_tenant_in, with_few_shards}
pub use Rattle.cops_types.specs.OpenSlots.{admission_refusal, begun_with, first_from, has_name, has_token, open_at, open_slot_of_name}
pub use Rattle.cops_types.specs.PairForms.{are_deps, are_near, is_pair, is_version}
pub use Rattle.cops_types.specs.Pairs.{greatest_clock, pair_cmp}
pub use Rattle.cops_types.specs.Records.{clock, ever, is_outdated, mark, Tracked}
pub use Rattle.cops_types.specs.Refusal.{refused_if}
pub use Rattle.cops_types.specs.RequestErrors.{IfRefusal, OnRefusal}
pub use Rattle.cops_types.specs.Search.{is_rising}
pub use Rattle.cops_types.specs.Sink.{AppendsFront, sink_failures, sink_writer}
pub use Rattle.cops_types.specs.Slots.{AreNamed, slot_of_name}
pub use Rattle.cops_types.specs.Source.{source_reader}
pub use Rattle.cops_types.specs.TenantConfig.{tenant_config, TenantConfig}
pub use Rattle.cops_types.specs.TenantTexts.{AreApart, has_text}
pub use Rattle.cops_types.specs.Value.{is_value}
pub use Rattle.cops_types.specs.Version.{last_clock, next_version, Timestamp, version_eq}
pub use Rattle.cops_types.specs.Words.{first_word, is_u64, list_text, newline, no_words, number_of, pair_text, parts_at, space, spaced, version_text}
pub use Rattle.cops_types.specs.declared.configs.Config.{Config}
pub use Rattle.cops_types.specs.declared.configs.Tenant.{Tenant}
pub use Rattle.cops_types.specs.declared.faults.Fault.{Fault}
pub use Rattle.cops_types.specs.declared.faults.Fault.TheVariants.{AuditFull, ByteQuota, ClockFull, OutboxFull, Syntax, VersionQuota, WriteFault}
pub use Rattle.cops_types.specs.declared.heads.HeadLine.TheVariants.{Begin, More}
pub use Rattle.cops_types.specs.declared.pairs.Pair.{Pair}
pub use Rattle.cops_types.specs.declared.records.EntryParts.{EntryParts as Entry}
pub use Rattle.cops_types.specs.declared.request_errors.RequestError.{RequestError}
pub use Rattle.cops_types.specs.declared.request_errors.RequestError.TheVariants.{OutOfMemory}
pub use Rattle.cops_model.specs.Events.{cluster_of, config_at, own}
pub use Rattle.cops_model.specs.ListLimits.{HasFew, HasFewInAudit, HasFewInCall, HasFewInReply, HasFewPairs}
pub use Rattle.cops_model.specs.MainTheorem.{with_tenant_alone}
pub use Rattle.cops_model.specs.Place.{fits, node_number, Place, place_of}
pub use Rattle.cops_model.specs.Setups.{config_in, config_of, is_open_at, next_slot, Setup}
pub use Rattle.cops_model.specs.SoloNode.{front, new_node, queue, SoloNode}
pub use Rattle.cops_model.specs.Step.{acknowledge, audited, CallEffect, commit_refusal, effect, node_step, put_with_version, reply_exact, reply_latest, reply_pull, store_unless, unchanged, version_of_put, was_committed}
pub use Rattle.cops_model.specs.declared.calls.AuditEntry.{AuditEntry}
pub use Rattle.cops_model.specs.declared.calls.NodeCall.{NodeCall}
pub use Rattle.cops_model.specs.declared.calls.NodeCall.TheVariants.{Ack, Collect, Commit, Get, Put}
pub use Rattle.cops_model.specs.declared.calls.NodeId.{NodeId}
pub use Rattle.cops_model.specs.declared.calls.NodeReply.{NodeReply}
pub use Rattle.cops_model.specs.declared.calls.NodeReply.TheVariants.{Absent, Acked, Already, Checked, Committed, Found, NotFront, Nothing, NotYet, OutOfOrder, Refused, Stored}
pub use Rattle.cops_model.specs.declared.calls.Wanted.{Wanted}
pub use Rattle.cops_model.specs.declared.calls.Wanted.TheVariants.{Exactly, Latest}
pub use Rattle.cops_node.proofs.AuditLaws.{left_by_audit, trail_of_effect}
pub use Rattle.cops_node.proofs.Clusters.{id_is, place_new}
pub use Rattle.cops_node.proofs.Fresh.{numbers_fit}
pub use Rattle.cops_node.proofs.Slots.{fits_under}
pub use Rattle.cops_node.specs.Clusters.{HasTenant, id_of, IsCluster, nodes_of, shape_of}
pub use Rattle.cops_node.specs.Counting.{Counting, IsCountedTurn, place_of_counting, RepresentsSolo}
pub use Rattle.cops_node.specs.Parts.{AllFit, are_clocks, AuditFits, home_of, place_at, place_under, Shared, site_in, site_of, solo_of, terms_at, terms_of, trail_of}
pub use Rattle.cops_node.specs.Run.{calls_in_trail, IsLeftByAudit, node_after, TimedCall}
pub use Rattle.cops_node.specs.Shape.{place_in}
pub use Rattle.cops_node.specs.declared.Home.{Home}
pub use Rattle.cops_node.specs.declared.Shape.{Shape}
pub use Rattle.cops_node.specs.declared.Terms.{Terms}
pub use Rattle.cops_script.proofs.ApartTenants.{found_at, name_of, short_name}
pub use Rattle.cops_script.proofs.CutLemmas.{same_first_at}
pub use Rattle.cops_script.proofs.HeadRuns.{read_once, real_lines}
pub use Rattle.cops_script.proofs.HostLineLemmas.{admitted-good}
pub use Rattle.cops_script.proofs.KnownLemmas.{AppendsFront-more, AppendsFront-nil, input_is, known_lines, known_whole, Run-quiet}
pub use Rattle.cops_script.proofs.Numbered.{AreNumbered, AreOf, next_numbered, numbered_first, of_all_lives}
pub use Rattle.cops_script.proofs.OpenSets.{may_be_given}
pub use Rattle.cops_script.proofs.SaidLines.{said_in-placed}
pub use Rattle.cops_script.proofs.TenantConfigs.{clocks_of_good, quota_at}
pub use Rattle.cops_script.proofs.WholeHeads.{few_deps, shards_of}
pub use Rattle.cops_script.specs.GoodHeads.{is_good}
pub use Rattle.cops_script.specs.HostLines.{admitted_in, closed_in, plus}
pub use Rattle.cops_script.specs.LineAnswers.{Answers}
pub use Rattle.cops_script.specs.LineRules.{Run}
pub use Rattle.cops_script.specs.LineRuns.{AnswersAll, IfRunRefused, StopsEarly}
pub use Rattle.cops_script.specs.Lives.{first_lives, Lives, lives_after, lives_past, of_lives, with_all_lives}
pub use Rattle.cops_script.specs.Said.{admission_of, admission_unless, begins_admission, begins_closing, closing_of, OfHost, Said, said_found, said_in, tenants_after, tenants_past}
pub use Rattle.cops_script.specs.Script.{events_in, said_by_lines, said_to, Written}
pub use Rattle.cops_script.specs.ScriptRuns.{text_in}
pub use Rattle.cops_script.specs.ScriptWorlds.{cluster_left, IsLeftBy, IsLeftByRead, life_left, setup_left}
pub use Rattle.cops_script.specs.declared.line_runs.fault.RunFault.{RunFault}
pub use Rattle.cops_script.specs.declared.line_runs.fault.RunFault.TheVariants.{ReadFault}
pub use Rattle.cops_script.specs.declared.line_runs.machine.Stop.{Stop}
pub use Rattle.cops_script.specs.declared.scripts.BadConfig.{BadConfig as BadHead}
pub use Rattle.cops_world.specs.Worlds.{HasOpenCluster, KeptWorld, open_setup}
pub use Rattle.cops_replay.specs.AuditFiles.{audit_rules, AuditRules, end_answers, end_refuses, GoesOn, GoesOnAfter, head_answers, head_refuses, IsAtHead, line_answers, line_refuses, rules_in}
pub use Rattle.cops_replay.specs.AuditRuns.{AllReplaySame, AreFormed, AreFormedFor, audit_after, audit_out, HasItsTenants, HaveLines, his_records, IsOfWriting, open_config, open_nodes, ReplaysSameFor, SaysSame, SaysSameFor, WritesAudit, WritesAuditFront}
pub use Rattle.cops_replay.specs.AuditText.{AreNodesAt, AreNodesOf, AreNodesOfOpen, AreOfAudits, at_slots, audit_at, audit_of, audit_text, ended, HasShape, HaveTenants, head_text, his_nodes, IsOfAudit, layout_line, left_config, left_nodes, nodes_at, open_audit_of, open_config_of, open_nodes_of, open_slots, open_tenants, record_of, records_from, records_of, records_text, ReplaysSame, slots_from, tenant_text, tenants_text, with_tenants}
pub use Rattle.cops_replay.specs.ExtractionRules.{part_lines, part_rules}
pub use Rattle.cops_replay.specs.FileHeads.{count_in, front_by, front_in, front_with_by, HaveClocks, IsFileHeadAt, layout_in, tells_layout}
pub use Rattle.cops_replay.specs.MigratedText.{bad_config_at, bad_line_at, ends_by, IsAuditInBoth, migrated_from, migrated_front, migrated_records, Migration, migration_answers, migration_end_refuses, migration_of, migration_refuses, migration_rules, OldHeadGoesOn, OldHeadIsRefused, part_answers, part_ends, part_refuses, ReadsAlike, record_fault, RecordRefuses, records_in, whole_migration, with_text}
pub use Rattle.cops_replay.specs.OldHeads.{has_sizes, OldHeadContinues}
pub use Rattle.cops_replay.specs.OwnParts.{as_part_fault, IsOpenAt, IsOpenIn, IsOwnAudit, IsOwnAuditAfter, IsOwnAuditOf, IsPartBy, IsPartOf, IsSlotFormed, LacksTenant, layout_lines, lone_head_lines, own_audit_text, own_records, part_text, RefusesOwnAuditAfter, RefusesOwnAuditOf, RefusesPartBy, RefusesPartOf, SaysSameOwn, slot_audit, WritesOwnAudit, WritesOwnAuditFront, WritesPart, WritesPartFront, WritesSlot, WritesSlotFront}
pub use Rattle.cops_replay.specs.Pages.{FailsBy, page, Page, PutsText}
pub use Rattle.cops_replay.specs.RecordLines.{all_pairs_of, at_end, bare_reply, both_numbers, byte_of, bytes_of, call_of_verb, deps_of, digit_of, done_with, kept_if, key_in, near_of, next_as, node_of, numbers_of, pair_of, pair_of_parts, pairs_of, Read, read_ack, read_asked, read_call, read_check, read_commit, read_entry, read_found, read_get, read_gone, read_line, read_mark, read_pull, read_pulled, read_put, read_removed, read_reply, read_stored, record_by, record_in, record_told, record_with, reply_of_verb, reply_told, sign_of, some_bytes_of, then_read, value_in, version_in, Versions, wanted_of, whole}
pub use Rattle.cops_replay.specs.RecordText.{bytes_text, call_words, digit_text, entry_words, has_form, is_audited, is_bytes, is_call, is_entry, is_record, is_reply, is_wanted, IsRecordLine, node_text, record_line, record_value, record_words, reply_words, wanted_text}
pub use Rattle.cops_replay.specs.ReplayRules.{IsNotBegun, RefusesOwn, replay_lines, replay_rules, ReplaysOwn}
pub use Rattle.cops_replay.specs.ReplayText.{alone_lines, FindsBy, FindsIn, has_great_clock, HasLine, HasPart, head_by, is_great_in, is_too_great_in, IsAuditFor, IsEarlyLine, IsRefusedBy, IsReplayBy, IsReplayOf, layout_of, longest_record, RefusesReplayOf, replayed_text, ReplaysFront, seen_lines, starts_great_in, told_in, told_number, told_of}
pub use Rattle.cops_replay.specs.Replaying.{Agrees, AgreesWith, Finds, FindsFrom, fresh_nodes, nodes_after, turn_of}
pub use Rattle.cops_replay.specs.Replayings.{AreAll, AreLoneNodes, Differs, found_of, IsLineReplayed, IsNodeAt, IsRecordCounted, IsReplayed, IsReplayedLine, IsReplied, Lone, MayAgree, Passes, Standing}
pub use Rattle.cops_replay.specs.Room.{front_text, packed_record}
pub use Rattle.cops_replay.specs.VersionLayouts.{early_version_of, effect_under, is_early, is_old_record, last_early_clock, layout_1, layout_2, next_under, node_step_under, nodes_after_in, old_fault_of, old_nodes, old_record_in, old_refusal_of, turn_in, version_under, versions_by, versions_in}
pub use Rattle.cops_replay.specs.declared.Record.{Record}
pub use Rattle.cops_replay.specs.declared.Replayed.{Replayed}
pub use Rattle.cops_replay.specs.declared.Replayed.TheVariants.{FirstDifference, Same}
pub use Rattle.cops_replay.specs.declared.audit_machine.AuditFile.{AuditFile}
pub use Rattle.cops_replay.specs.declared.audit_machine.AuditFile.TheVariants.{Head, Records}
pub use Rattle.cops_replay.specs.declared.audit_machine.AuditMachine.{AuditMachine}
pub use Rattle.cops_replay.specs.declared.extractions.PartOf.{PartOf}
pub use Rattle.cops_replay.specs.declared.file_heads.FileHead.{FileHead}
pub use Rattle.cops_replay.specs.declared.layouts.Layout.{Layout}
pub use Rattle.cops_replay.specs.declared.layouts.Layout.TheVariants.{Early, Today}
pub use Rattle.cops_replay.specs.declared.migrations.MigrationRefusal.{MigrationRefusal}
pub use Rattle.cops_replay.specs.declared.migrations.MigrationRefusal.TheVariants.{BadLine}
pub use Rattle.cops_replay.specs.declared.migrations.OldAudit.{OldAudit}
pub use Rattle.cops_replay.specs.declared.migrations.OldPart.{OldPart}
pub use Rattle.cops_replay.specs.declared.reading.Asked.{Asked}
pub use Rattle.cops_replay.specs.declared.refusals.PartRefusal.{PartRefusal}
pub use Rattle.cops_replay.specs.declared.refusals.PartRefusal.TheVariants.{BadConfig, UnknownTenant}
pub use Rattle.cops_replay.specs.declared.refusals.ReplayRefusal.{ReplayRefusal}
pub use Rattle.cops_replay.specs.declared.refusals.ReplayRefusal.TheVariants.{ClockTooGreat}
pub use Rattle.cops_replay.specs.declared.replay_runs.ReplaysOf.{ReplaysOf}
pub use Rattle.cops_causal.proofs.Attempts.{Every-front}
pub use Rattle.cops_causal.proofs.AuditLists.{audits_few}
