use Rattle.std.proofs.Common.{rules, ◌≡◌, ◌∙◌, sym, ap, inl, inr, refl, subst, cond, true, Contains, Err}
use Rattle.vc_object.specs.ObjectId.{is_id}
use Rattle.vc_object.specs.declared.id.ObjectId.{ObjectId}
use Rattle.vc_object_map.specs.Store.{IsDamaged}
use Rattle.vc_object_map.specs.StoreFault.{IsMet}
use Rattle.vc_pruning.proofs.RemovingLemmas.{met_unkept, not_among, spares_removed, spares_same}
use Rattle.vc_pruning.proofs.removing.remove_unless_kept.Goals as goal

pub returns-then-is_among-clause-takes : goal.returns-then-is_among-clause-takes
returns-then-is_among-clause-takes g c = λ honest. inl (subst (λ (i : ObjectId). Contains c.args.kept.now i) c.named.ensures.same (c.is_among.ensures.0 c.if-is_among.true), refl, refl)

pub returns-then-is_among-clause-spares : goal.returns-then-is_among-clause-spares
returns-then-is_among-clause-spares g c = λ honest. spares_same _ _ refl

pub returns-then-is_among-clause-whole : goal.returns-then-is_among-clause-whole
returns-then-is_among-clause-whole g c = λ honest bad. subst (λ (i : ObjectId). Contains c.args.kept.now i) c.named.ensures.same (c.is_among.ensures.0 c.if-is_among.true)

pub returns-then-there-clause-takes : goal.returns-then-there-clause-takes
returns-then-there-clause-takes g c = λ honest.
    let removes = rw c.named.ensures.same at c.in_ok-there.ensures.removes in
    inr (not_among c.args.kept.now c.args.id.now (rw c.named.ensures.same at c.is_among.ensures) c.if-is_among.false, removes.objects honest, ap (λ b. cond b 1 0) (sym c.if-there.true ∙ removes.there honest))

pub returns-clause-takes : goal.returns-clause-takes
returns-clause-takes g c = λ honest.
    let removes = rw c.named.ensures.same at c.in_ok-there.ensures.removes in
    inr (not_among c.args.kept.now c.args.id.now (rw c.named.ensures.same at c.is_among.ensures) c.if-is_among.false, removes.objects honest, ap (λ b. cond b 1 0) (sym c.if-there.false ∙ removes.there honest))

pub returns-then-there-clause-spares : goal.returns-then-there-clause-spares
returns-then-there-clause-spares g c = λ honest.
    let removes = rw c.named.ensures.same at c.in_ok-there.ensures.removes in
    let valid : is_id c.args.id.now ≡ true = search rules in
    spares_removed _ _ c.args.id.now valid (removes.damaged honest) (removes.files honest)

pub returns-clause-spares : goal.returns-clause-spares
returns-clause-spares g c = λ honest.
    let removes = rw c.named.ensures.same at c.in_ok-there.ensures.removes in
    let valid : is_id c.args.id.now ≡ true = search rules in
    spares_removed _ _ c.args.id.now valid (removes.damaged honest) (removes.files honest)

pub returns-then-there-clause-whole : goal.returns-then-there-clause-whole
returns-then-there-clause-whole g c = λ honest bad. absurd ((rw c.named.ensures.same at c.in_ok-there.ensures.removes).damaged honest bad)

pub returns-clause-whole : goal.returns-clause-whole
returns-clause-whole g c = λ honest bad. absurd ((rw c.named.ensures.same at c.in_ok-there.ensures.removes).damaged honest bad)

pub returns-in_err-there-clause-spares : goal.returns-in_err-there-clause-spares
returns-in_err-there-clause-spares g c = λ honest. spares_same _ _ (c.in_err-there.ensures.removes.err honest)

pub returns-in_err-there-clause-refused : goal.returns-in_err-there-clause-refused
returns-in_err-there-clause-refused g c = λ honest.
    let content = g.F.Files.content c.args.files.now in
    let e = c.in_err-there.field-0.0 in
    let told : IsMet (λ q. ¬ Contains c.args.kept.now q) (IsDamaged content) e =
    met_unkept content c.args.kept.now c.args.id.now e (not_among c.args.kept.now c.args.id.now (rw c.named.ensures.same at c.is_among.ensures) c.if-is_among.false) (rw c.named.ensures.same at (c.in_err-there.ensures.removes.refused honest)) in
    let is : c.from_residual.result ≡ Err e = search rules in
    rw is told
