use Rattle.std.proofs.Common.{rules, ◌≡◌, ◌++◌, [], List, Option, Some, None, sym, ap, ◌∙◌, subst, append-nil}
use Rattle.vc_object.proofs.Order.{All-push}
use Rattle.vc_refs.specs.LooseFault as own
use Rattle.vc_refs.specs.Packed.{PackedRef}
use Rattle.vc_refs.specs.Packing.{with_first, AreInRefs}
use Rattle.vc_refs.specs.RefMap.{IsInRefs, entry_at}
use Rattle.vc_refs.specs.Refs.{loose_refs}
use Rattle.vc_refs.proofs.layered.listing.add_loose.Goals as goal

pub returns-in_err-entry-clause-refused : goal.returns-in_err-entry-clause-refused
returns-in_err-entry-clause-refused g c = λ honest.
    let told : own.BlamesPath (g.F.Files.content c.args.files.now) c.args.path.now c.in_err-entry.field-0.0 = c.in_err-entry.ensures.refused honest in
    search (rules, told)

pub returns-in_default-clause-added : goal.returns-in_default-clause-added
returns-in_default-clause-added g c = λ honest.
    let items : List PackedRef = c.args.loose.now.items in
    let found : None ≡ entry_at (loose_refs (g.F.Files.content c.args.files.now)) c.args.path.now = rw c.in_default.is at (c.in_ok-entry.ensures.found honest) in
    sym (append-nil items) ∙ ap (λ (e : Option PackedRef). items ++ with_first e []) found

pub returns-clause-added : goal.returns-clause-added
returns-clause-added g c = λ honest.
    let items : List PackedRef = c.args.loose.now.items in
    let found : Some c.in-Some.entry ≡ entry_at (loose_refs (g.F.Files.content c.args.files.now)) c.args.path.now = rw c.in-Some.is at (c.in_ok-entry.ensures.found honest) in
    c.in_ok-push.ensures.items ∙ ap (λ (e : Option PackedRef). items ++ with_first e []) found

pub returns-clause-inside : goal.returns-clause-inside
returns-clause-inside g c = λ all.
    let here : IsInRefs c.in-Some.entry.0 = rw c.in-Some.is at c.in_ok-entry.ensures.inside in
    subst AreInRefs (sym c.in_ok-push.ensures.items) (All-push (λ (ref : PackedRef). IsInRefs ref.0) c.args.loose.now.items c.in-Some.entry all here)
