use Rattle.std.proofs.Common.{◌≡◌, rules, true}
use Rattle.vc_desk.specs.Entry.{entry_text}
use Rattle.vc_desk.proofs.PartLemmas.{same_entry}
use Rattle.vc_desk.proofs.compare.is_same_entry.Goals as goal

pub returns-clause-same : goal.returns-clause-same
returns-clause-same c same =
    let connection : c.args.a.now.connection ≡ c.args.b.now.connection = search rules in
    let event : c.is_same_event.result ≡ true = search rules in
    same_entry (entry_text c.args.a.now) (entry_text c.args.b.now) connection (c.is_same_event.ensures.same event) (c.is_same_answer.ensures.same same)
