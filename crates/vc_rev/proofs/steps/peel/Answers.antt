use Rattle.std.proofs.Common.{rules, inr, ◌≡◌, [], ◌∷◌, Some, ap, sym, ◌∙◌, refl, arith}
use Rattle.std.specs.Option.{option_map}
use Rattle.indexmap.specs.IndexSet.{insert_key, insert_all}
use Rattle.vc_object_map.proofs.WalkLemmas.{Walks-step, Contains-from_slice_get, walked-closed, Reaches-from_one, ReachedFrom-one}
use Rattle.vc_object.proofs.IdLemmas.{id_eq-same}
use Rattle.vc_object.specs.Decoding.{stored_object}
use Rattle.vc_object.specs.ObjectId.{id_eq}
use Rattle.std.proofs.lemmas.Result.{err_from_is_err_and}
use Rattle.vc_rev.specs.Question as questions
use Rattle.vc_rev.specs.Meaning.{tag_links}
use Rattle.vc_rev.proofs.StepsLemmas.{Walks-one, tag_links-tag}
use Rattle.vc_rev.proofs.steps.peel.Goals as goal

pub loop-next-init : goal.loop-next-init
loop-next-init g c =
    let added : c.insert.new.self.keys ≡ c.args.id ∷ [] = c.in_ok-insert.ensures.keys ∙ ap (λ ks. insert_key id_eq ks c.args.id) c.new-seen.ensures.empty in
    record { kept = refl; seen = refl; wear = search rules; walks = λ honest. Walks-one (tag_links (g.R.Repository.source (g.R.Repository.view_of c.args.repo.now)).objects) c.args.id c.insert.new.self.keys added }

pub returns-in_err-object-clause-refused : goal.returns-in_err-object-clause-refused
returns-in_err-object-clause-refused g c =
    let before = c.loop-next.invariant in
    let objects = (g.R.Repository.source (g.R.Repository.view_of c.args.repo.now)).objects in
    let at = c.index.result.now in
    let told = rw before.seen at c.in_err-object.ensures.refused in
    let p = err_from_is_err_and c.from_residual-in_err-object.result c.from_residual-in_err-object.ensures.1 in
    rw (p.1, p.2) (λ honest. inr (questions.Object at, (at, Reaches-from_one (tag_links objects) c.args.id at ((before.walks honest).reached at (Contains-from_slice_get _ _ _ c.index.ensures)), refl), told honest))

pub returns-in_default-clause-refused : goal.returns-in_default-clause-refused
returns-in_default-clause-refused g c honest =
    let before = c.loop-next.invariant in
    let objects = (g.R.Repository.source (g.R.Repository.view_of c.args.repo.now)).objects in
    let at = c.index.result.now in (
      at,
      Reaches-from_one (tag_links objects) c.args.id at ((before.walks honest).reached at (Contains-from_slice_get _ _ _ c.index.ensures)),
      ap (λ view. (g.R.Repository.source view).objects at) (sym before.seen) ∙ sym (c.in_ok-object.ensures.found honest) ∙ ap (option_map (λ s. stored_object s.kind s.body.items)) c.in_default.is,
    )

pub returns-in_default-target-clause-ok : goal.returns-in_default-target-clause-ok
returns-in_default-target-clause-ok g c honest =
    let before = c.loop-next.invariant in
    let objects = (g.R.Repository.source (g.R.Repository.view_of c.args.repo.now)).objects in
    let at = c.index.result.now in (
      Reaches-from_one (tag_links objects) c.args.id at ((before.walks honest).reached at (Contains-from_slice_get _ _ _ c.index.ensures)),
      ap (λ view. (g.R.Repository.source view).objects at) (sym before.seen) ∙ sym (c.in_ok-object.ensures.found honest) ∙ ap (option_map (λ s. stored_object s.kind s.body.items)) c.in-Some.is,
      sym c.target.ensures ∙ c.in_default-target.is,
    )

pub loop-next-preserved : goal.loop-next-preserved
loop-next-preserved g c =
    let before = c.loop-next.invariant in
    let call = c.in_ok-object.ensures in
    let objects = (g.R.Repository.source (g.R.Repository.view_of c.args.repo.now)).objects in
    let at = c.index.result.now in
    let named = c.in-Some-target.named in
    let added : c.insert-in-loop-next.new.self.keys ≡ insert_all id_eq c.loop-next.seen.keys (named ∷ []) = c.in_ok-insert-2.ensures.keys in
    record {
      kept = call.kept ∙ before.kept;
      seen = call.seen ∙ before.seen;
      wear = search rules;
      walks = λ honest.
          let here : objects at ≡ Some (stored_object c.in-Some.object.kind c.in-Some.object.body.items) =
          ap (λ view. (g.R.Repository.source view).objects at) (sym before.seen) ∙ sym (call.found honest) ∙ ap (option_map (λ s. stored_object s.kind s.body.items)) c.in-Some.is in
          Walks-step (tag_links objects) (c.args.id ∷ []) id_eq id_eq-same c.loop-next.seen.keys c.insert-in-loop-next.new.self.keys (named ∷ []) c.loop-next.next at (before.walks honest)
          c.index.ensures (tag_links-tag objects at named (stored_object c.in-Some.object.kind c.in-Some.object.body.items) here (sym c.target.ensures ∙ c.in-Some-target.is)) added;
    }

pub returns-clause-refused : goal.returns-clause-refused
returns-clause-refused g c honest y reached =
    let objects = (g.R.Repository.source (g.R.Repository.view_of c.args.repo.now)).objects in
    walked-closed (tag_links objects) (c.args.id ∷ []) c.loop-next.seen.keys c.loop-next.next (c.loop-next.invariant.walks honest) (omega (arith, c.len.ensures.len)) y (ReachedFrom-one (tag_links objects) c.args.id y reached)
