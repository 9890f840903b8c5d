use Rattle.std.proofs.Common.{rules, ◌≡◌, inl, inr, ◌↔◌, IsTrue, refl, sym, ◌∙◌, subst}
use Rattle.std.proofs.lemmas.Map.Views.{Contains-from_any}
use Rattle.vc_object_map.specs.Graph.{IsClosed, IsClosedUnder}
use Rattle.vc_object.proofs.IdLemmas.{id_eq-same}
use Rattle.vc_object.specs.ObjectMap.{links_in}
use Rattle.vc_object_map.specs.Store.{objects}
use Rattle.vc_exchange.proofs.WantingOpen.{adds_new, open_not}
use Rattle.vc_exchange.proofs.wanting.add_open.Goals as goal

-- it was asked for already
pub returns-then-contains-clause-added : goal.returns-then-contains-clause-added
returns-then-contains-clause-added g c = λ honest closed.
    inl (inr (Contains-from_any id_eq-same c.args.id.now c.args.wanted.now.keys (sym c.contains.ensures ∙ c.if-contains.true)), refl)

-- all is there
pub returns-then-branch-clause-added : goal.returns-then-branch-clause-added
returns-then-branch-clause-added g c = λ honest closed.
    let same : c.new-store.result.files.now ≡ c.args.files.now = search rules in
    let answer : IsTrue c.in_ok-is_complete_beyond.field-0 ↔ IsClosed (links_in (objects (g.F.Files.content c.args.files.now))) c.args.id.now =
    subst (λ (d : g.row.F.Denot). IsClosedUnder (links_in (objects (g.F.Files.content d))) c.args.known.now.keys → IsTrue c.in_ok-is_complete_beyond.field-0 ↔ IsClosed (links_in (objects (g.F.Files.content d))) c.args.id.now) same
    (c.in_ok-is_complete_beyond.ensures.complete honest) closed in
    inl (inl (answer.0 c.if-branch.true), refl)

-- it is new
pub returns-clause-added : goal.returns-clause-added
returns-clause-added g c = λ honest closed.
    let same : c.new-store.result.files.now ≡ c.args.files.now = search rules in
    let answer : IsTrue c.in_ok-is_complete_beyond.field-0 ↔ IsClosed (links_in (objects (g.F.Files.content c.args.files.now))) c.args.id.now =
    subst (λ (d : g.row.F.Denot). IsClosedUnder (links_in (objects (g.F.Files.content d))) c.args.known.now.keys → IsTrue c.in_ok-is_complete_beyond.field-0 ↔ IsClosed (links_in (objects (g.F.Files.content d))) c.args.id.now) same
    (c.in_ok-is_complete_beyond.ensures.complete honest) closed in
    let added = adds_new c.args.wanted.now.keys c.insert.new.self.keys c.args.id.now (sym c.contains.ensures ∙ c.if-contains.false) c.in_ok-insert.ensures.keys in
    inr ((λ whole. open_not c.if-branch.false (answer.1 whole)), added.0, added.1)
