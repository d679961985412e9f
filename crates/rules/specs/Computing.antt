-- Opens every definition of the rules, for proofs by computation: `unfolding computing`. Written by tools/computing.py.
use Rattle.std.specs.Prelude.{Bool, true}
use Rattle.rules.specs.Choice.{every, some, implies}
use Rattle.rules.specs.Scan.{turns, fold, all, any, count, total, first, iterate, repeat}
use Rattle.rules.specs.Refusals.{refusal_number}
use Rattle.rules.specs.Rights.{rights_of, bits_of, mode_of, mode_kept, mode_rights, reads, writes, appends, stands, covers, rights_in, bits_grant, asks_write, executable, bits_execute, owns, policy_rights, label_grants, transition, moved}
use Rattle.rules.specs.Store.{desc_of, hidden, shown_of, is_on, open_but, up, plus, apply_all}
use Rattle.rules.specs.Paths.{is_slash, not_slash, not_zero, span, skip, next_name, name_end, first_names, same_at, same_name, is_dots, name_ok, names_ok, no_zero, size_ok, shape_ok, end_ok, names_fit, path_ok, is_root}
use Rattle.rules.specs.Directories.{dirent_slot, is_empty, has_name, differs_at, precedes, is_before, is_ranked, is_padding, dirent_name, padded, dirent}
use Rattle.rules.specs.Rom.{prompt_length, rom_from, prompt_count, prompt_sound, prompts_sound, prompt, rom_words, seen_file, length_in, prompt_dirents, with_rom, seen_dirents}
use Rattle.rules.specs.Walk.{bits_allow, need_at, on_reached, deeper, entered, lookup, stop_at, follows, follow_by, here, walk_by, follower}
use Rattle.rules.specs.Sound.{slots_sized, sizes_sound, right_sound, transition_sound, policy_sound, owners_free, access_free, record_free, owners_sound, access_sound, fields_sound, record_sound, all_zero, name_byte_sound, name_sound, used_sound, dirent_sound, differs, is_new, is_used, entries_sound, dirents_sound, links_at, links_from, links_to, links_sound, is_parent, climbs, directory_sound, plain_sound, text_sound, link_sound, kind_sound, slot_sound, holds_at, holders_in, holders, open_free, on_plain_file, open_used, open_sound, open_within, opens_within, desc_sound, desc_free, subject_free, proc_free, subject_sound, proc_used, proc_sound, is_not_rom, rom_absent, tree_sound, tables_sound, store_sound, sound}
use Rattle.rules.specs.Calls.{operation_of, uses, path_below_root, new_file_ok, form_ok}
use Rattle.rules.specs.Written.{number_of, number_if, text_if, capped, normal_by, texts_fit, layout, keep, numbers_fit, accepted, decode}
use Rattle.rules.specs.Checks.{need, after, in_use, held, slot_free, ofd_free, fd_free, pid_free, unnaming, closing, dropping, releasing, share_of}
use Rattle.rules.specs.DecidePaths.{may_name, opening, open_room, open_file, open_mode, decide_open, making, create_room, create_at, decide_create, decide_symlink, unlink_at, decide_unlink, remove_at, decide_remove, link_room, link_at, link_to, decide_link, list_entry, list_at, decide_list, may_change, change_bits_at, decide_change_bits, decide_stat, execute_at, decide_execute, read_link_at, decide_read_link, transfer_to, rename_to, rename_at, rename_new, decide_rename}
use Rattle.rules.specs.Decide.{decide_close, read_open, decide_read, write_at, write_file, write_some, write_open, decide_write, decide_seek, duplicate_to, decide_duplicate, fork_to, decide_own, decide, decide_borrow}
use Rattle.rules.specs.Effects.{name_changes, unname_changes, create_changes, symlink_changes, link_changes, unnamed_changes, unlink_changes, remove_changes, transfer_changes, open_changes, truncate_changes, release_changes, close_changes, store_changes, duplicate_changes, share_changes, shared, shared_all, released, released_all, fork_changes, carry_out}
use Rattle.rules.specs.Step.{name_out, fields_out, bytes_of, bytes_out, reply_to, store_after, outcome_of, act, step, act_borrow, step_borrow, serve, answers, final}
use Rattle.rules.specs.Console.{console_with, console, console_policy}

unfoldable pub computing : Bool
unfolding every some implies turns fold all any count total first iterate repeat refusal_number rights_of bits_of mode_of mode_kept mode_rights reads writes appends stands covers rights_in bits_grant asks_write executable bits_execute owns policy_rights label_grants transition moved desc_of hidden shown_of is_on open_but up plus apply_all is_slash not_slash not_zero span skip next_name name_end first_names same_at same_name is_dots name_ok names_ok no_zero size_ok shape_ok end_ok names_fit path_ok is_root dirent_slot is_empty has_name differs_at precedes is_before is_ranked is_padding dirent_name padded dirent prompt_length rom_from prompt_count prompt_sound prompts_sound prompt rom_words seen_file length_in prompt_dirents with_rom seen_dirents bits_allow need_at on_reached deeper entered lookup stop_at follows follow_by here walk_by follower slots_sized sizes_sound right_sound transition_sound policy_sound owners_free access_free record_free owners_sound access_sound fields_sound record_sound all_zero name_byte_sound name_sound used_sound dirent_sound differs is_new is_used entries_sound dirents_sound links_at links_from links_to links_sound is_parent climbs directory_sound plain_sound text_sound link_sound kind_sound slot_sound holds_at holders_in holders open_free on_plain_file open_used open_sound open_within opens_within desc_sound desc_free subject_free proc_free subject_sound proc_used proc_sound is_not_rom rom_absent tree_sound tables_sound store_sound sound operation_of uses path_below_root new_file_ok form_ok number_of number_if text_if capped normal_by texts_fit layout keep numbers_fit accepted decode need after in_use held slot_free ofd_free fd_free pid_free unnaming closing dropping releasing share_of may_name opening open_room open_file open_mode decide_open making create_room create_at decide_create decide_symlink unlink_at decide_unlink remove_at decide_remove link_room link_at link_to decide_link list_entry list_at decide_list may_change change_bits_at decide_change_bits decide_stat execute_at decide_execute read_link_at decide_read_link transfer_to rename_to rename_at rename_new decide_rename decide_close read_open decide_read write_at write_file write_some write_open decide_write decide_seek duplicate_to decide_duplicate fork_to decide_own decide decide_borrow name_changes unname_changes create_changes symlink_changes link_changes unnamed_changes unlink_changes remove_changes transfer_changes open_changes truncate_changes release_changes close_changes store_changes duplicate_changes share_changes shared shared_all released released_all fork_changes carry_out name_out fields_out bytes_of bytes_out reply_to store_after outcome_of act step act_borrow step_borrow serve answers final console_with console console_policy
computing = true
