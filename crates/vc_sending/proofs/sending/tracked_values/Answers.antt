use Rattle.std.proofs.Common.{rules, ◌≡◌, ap, ◌∙◌}
use Rattle.std.specs.Prelude.{filter_map}
use Rattle.vc_sending.proofs.SendingLemmas.{blamed_list, tracked_values}
use Rattle.vc_sending.specs.SendFault.{BlamesRefFile}
use Rattle.vc_sending.specs.Sending.{tracked_in}
use Rattle.vc_sending.proofs.sending.tracked_values.Goals as goal

pub returns-in_err-listed-clause-refused : goal.returns-in_err-listed-clause-refused
returns-in_err-listed-clause-refused g c honest =
    let content = g.F.Files.content c.args.files.now in
    let own : BlamesRefFile content c.in_err-listed.field-0.0 = blamed_list content c.in_err-listed.field-0.0 (c.in_err-listed.ensures.refused honest) in
    search (rules, own)

pub returns-clause-tracked : goal.returns-clause-tracked
returns-clause-tracked g c honest id =
    let content = g.F.Files.content c.args.files.now in
    let listed = c.in_ok-listed.listed.items in
    let ids : c.in_ok-ids.ids.items ≡ filter_map tracked_in listed = c.in_ok-ids.ensures ∙ ap (filter_map tracked_in) c.deref.ensures.value in
    rw ids (tracked_values content listed (c.in_ok-listed.ensures.listed honest) id)
