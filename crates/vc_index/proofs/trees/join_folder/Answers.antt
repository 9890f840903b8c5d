use Rattle.std.proofs.Common.{◌≡◌, ◌≤◌, inr, List, [], ◌∷◌, ◌++◌, length, take, drop, sym, ap, ◌∙◌, subst}
use Rattle.std.specs.Prelude.{replicate}
use Rattle.std.specs.List.{AllByRecursion}
use Rattle.vc_object.specs.declared.mode.Mode.TheVariants as modes
use Rattle.vc_index.specs.Part.{parts_size}
use Rattle.vc_index.specs.WrittenTrees.{IsOfJoining, IsOfWrite, IsTooLong}
use Rattle.vc_index.specs.declared.trees.Part.{Part}
use Rattle.vc_index.proofs.ClosingLemmas.{closing_shorter, handed_on}
use Rattle.vc_index.proofs.FittingLemmas.{joining, joining_refused}
use Rattle.vc_index.proofs.trees.join_folder.Goals as goal

pub returns-in_err-check_size-clause-refused : goal.returns-in_err-check_size-clause-refused
returns-in_err-check_size-clause-refused c = λ m trees rest named left fits same b.
    let parts = c.args.parts.now.items in
    let start = c.start_of-first.result in
    let folder = c.args.folder.now in
    let fault = c.in_err-check_size.field-0.0 in
    let inside = subst (λ (ps : List Part). AllByRecursion (λ (p : Part). length p.folder.now ≡ length folder) (drop start ps)) c.deref.ensures.value c.start_of-first.ensures.inside in
    handed_on (IsOfWrite m (λ _. ⊥)) fault c.from_residual.result c.from_residual.ensures.1
    (joining_refused m trees rest parts named start folder same b c.requires.last c.requires.some inside
    (λ fs p e. c.start_of-first.ensures.above fs p (ap (take start) c.deref.ensures.value ∙ e)) left fault fits
    (subst (λ (ps : List Part). IsTooLong ps fault) (c.split_at.ensures.back ∙ ap (drop start) c.as_slice.ensures.value) c.in_err-check_size.ensures.refused))

pub returns-in_err-check_size-clause-fault : goal.returns-in_err-check_size-clause-fault
returns-in_err-check_size-clause-fault c = handed_on IsOfJoining c.in_err-check_size.field-0.0 c.from_residual.result c.from_residual.ensures.1 (inr c.in_err-check_size.ensures.refused.0)

pub returns-clause-joins : goal.returns-clause-joins
returns-clause-joins c = λ m trees rest named left same b.
    let parts = c.args.parts.now.items in
    let start = c.start_of-first.result in
    let folder = c.args.folder.now in
    let inside = subst (λ (ps : List Part). AllByRecursion (λ (p : Part). length p.folder.now ≡ length folder) (drop start ps)) c.deref.ensures.value c.start_of-first.ensures.inside in
    let part : Part = record { folder = c.split_path.result.0; name = c.split_path.result.1; entry = record { mode = modes.Tree; id = record { 0 = replicate 20 0 } } } in
    joining m trees rest parts named start folder same b c.requires.last c.requires.some inside
    (λ fs p e. c.start_of-first.ensures.above fs p (ap (take start) c.deref.ensures.value ∙ e)) left
    part c.push.new.self.items (sym c.split_path.ensures.is ∙ c.split_at-2.ensures.front) c.split_path.ensures.name c.split_path.ensures.folder
    (c.in_ok-push.ensures.items ∙ ap (λ ps. ps ++ part ∷ []) c.truncate.ensures.items)
    (subst (λ (ps : List Part). parts_size ps ≤ 16777216) (c.split_at.ensures.back ∙ ap (drop start) c.as_slice.ensures.value) c.in_ok-check_size.ensures.fits)

pub returns-clause-shorter : goal.returns-clause-shorter
returns-clause-shorter c =
    let start = c.start_of-first.result in
    let part : Part = record { folder = c.split_path.result.0; name = c.split_path.result.1; entry = record { mode = modes.Tree; id = record { 0 = replicate 20 0 } } } in
    let pushes : c.push.new.self.items ≡ take start c.args.parts.now.items ++ part ∷ [] = c.in_ok-push.ensures.items ∙ ap (λ ps. ps ++ part ∷ []) c.truncate.ensures.items in
    rw pushes (closing_shorter (take start c.args.parts.now.items) part c.args.folder.now c.requires.some (sym c.split_path.ensures.is ∙ c.split_at-2.ensures.front))
