-- The facts on lines and scripts that are read by hand: each computes.
use Rattle.std.proofs.Common.{refl}
use Rattle.std.specs.Str.{chars, is_utf8}
use Rattle.hex.proofs.OnLiterals.{hex_on_literals}
use Rattle.vc_refname.specs.RefName.{first_broken_rule}
use Rattle.vc_script.specs.ByHand.{EventsByHand, OrdersByHand, PushByHand, RefusedByHand, ScriptsByHand}
use Rattle.vc_script.specs.Lines.{add_in, asked_in, branch_at_in, commit_in, compare_in, decoded_in, delete_in, deliver_in, detach_in, event_in, fetch_in, forge_in, forged, head_in, line_event, load_in, node_event, order_in, ordered, pack_in, prune_in, push_in, restart_in, step_in, stop_in, unstage_in, verb_in, write_in}
use Rattle.vc_script.specs.Script.{clones_in, script_in, script_of, world_in}
use Rattle.vc_script.specs.Words.{branch_in, branch_item_in, clone_in, item_in, name_in, number_in, party_in}
use lib.Utf8.{encode}

pub orders_by_hand : OrdersByHand
unfolding line_event event_in node_event asked_in ordered order_in verb_in party_in clone_in number_in write_in decoded_in hex_on_literals add_in unstage_in commit_in branch_at_in delete_in head_in load_in detach_in fetch_in branch_in name_in is_utf8 chars encode first_broken_rule
orders_by_hand = (refl, refl, refl, refl, refl, refl, refl, refl, refl, refl)

pub push_by_hand : PushByHand
unfolding line_event event_in node_event asked_in ordered order_in verb_in party_in clone_in number_in push_in item_in branch_item_in branch_in name_in is_utf8 chars encode first_broken_rule
push_by_hand = (refl, refl)

pub events_by_hand : EventsByHand
unfolding line_event event_in node_event asked_in party_in clone_in number_in deliver_in step_in restart_in compare_in pack_in prune_in stop_in forge_in forged decoded_in hex_on_literals
events_by_hand = (refl, refl, refl, refl, refl, refl, refl, refl, refl, refl, refl, refl, refl)

pub refused_by_hand : RefusedByHand
unfolding line_event event_in node_event asked_in ordered order_in verb_in party_in clone_in number_in write_in decoded_in hex_on_literals head_in pack_in prune_in push_in step_in stop_in forge_in forged branch_in name_in is_utf8 chars encode first_broken_rule
refused_by_hand = (refl, refl, refl, refl, refl, refl, refl, refl, refl, refl, refl, refl, refl, refl, refl, refl, refl, refl, refl, refl, refl, refl, refl)

pub scripts_by_hand : ScriptsByHand
unfolding script_of script_in world_in clones_in line_event event_in node_event asked_in ordered order_in verb_in party_in clone_in number_in fetch_in step_in
scripts_by_hand = (refl, refl, refl, refl, refl, refl)
