use Rattle.std.proofs.Common.{Some, None, sym, ap, ◌∙◌}
use Rattle.vc_refs.specs.Packed.{texts}
use Rattle.vc_refs.proofs.PackedLemmas.{read_lines, read_map, bad_where_none}
use Rattle.vc_refs.proofs.packed.PackedRefs.read.Goals as goal

pub returns-in_default-clause-found : goal.returns-in_default-clause-found
returns-in_default-clause-found c =
    sym (read_lines c.args.text.now (texts c.deref.result.now) None (ap texts c.deref.ensures.value ∙ c.in_ok-lines.ensures) (rw c.in_default.is at c.in_ok-refs.ensures.refs))

pub returns-in_default-clause-bad : goal.returns-in_default-clause-bad
returns-in_default-clause-bad c =
    read_lines c.args.text.now (texts c.deref.result.now) None (ap texts c.deref.ensures.value ∙ c.in_ok-lines.ensures) (rw c.in_default.is at c.in_ok-refs.ensures.refs)

pub returns-in_default-2-clause-found : goal.returns-in_default-2-clause-found
returns-in_default-2-clause-found c =
    sym (read_map c.args.text.now (texts c.deref.result.now) c.in-Some.refs.items None (ap texts c.deref.ensures.value ∙ c.in_ok-lines.ensures) (rw c.in-Some.is at c.in_ok-refs.ensures.refs) (rw c.in_default-2.is at c.in_ok-refs-2.ensures.found))

pub returns-in_default-2-clause-bad : goal.returns-in_default-2-clause-bad
returns-in_default-2-clause-bad c =
    read_map c.args.text.now (texts c.deref.result.now) c.in-Some.refs.items None (ap texts c.deref.ensures.value ∙ c.in_ok-lines.ensures) (rw c.in-Some.is at c.in_ok-refs.ensures.refs) (rw c.in_default-2.is at c.in_ok-refs-2.ensures.found)

pub returns-clause-found : goal.returns-clause-found
returns-clause-found c =
    c.in_ok-found.ensures.found
    ∙ sym (read_map c.args.text.now (texts c.deref.result.now) c.in-Some.refs.items (Some c.in-Some-2.refs) (ap texts c.deref.ensures.value ∙ c.in_ok-lines.ensures) (rw c.in-Some.is at c.in_ok-refs.ensures.refs) (rw c.in-Some-2.is at c.in_ok-refs-2.ensures.found))

pub returns-clause-bad : goal.returns-clause-bad
returns-clause-bad c =
    bad_where_none c.args.text.now c.in_ok-found.found
    (c.in_ok-found.ensures.found
    ∙ sym (read_map c.args.text.now (texts c.deref.result.now) c.in-Some.refs.items (Some c.in-Some-2.refs) (ap texts c.deref.ensures.value ∙ c.in_ok-lines.ensures) (rw c.in-Some.is at c.in_ok-refs.ensures.refs) (rw c.in-Some-2.is at c.in_ok-refs-2.ensures.found)))
