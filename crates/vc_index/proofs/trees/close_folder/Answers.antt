use Rattle.std.proofs.Common.{ℕ, ◌≡◌, ◌≤◌, List, [], ◌∷◌, ◌++◌, map, take, drop, length, sym, ap, ◌∙◌, subst, refl}
use Rattle.std.specs.List.{AllByRecursion}
use Rattle.vc_object.specs.Object.{object_name}
use Rattle.vc_object.specs.ObjectId.{is_id}
use Rattle.vc_object.specs.Tree.{spelling}
use Rattle.vc_object.specs.declared.id.ObjectId.{ObjectId}
use Rattle.vc_object.specs.declared.kind.Kind.TheVariants as kinds
use Rattle.vc_object.specs.declared.mode.Mode.TheVariants as modes
use Rattle.vc_object.proofs.IdLemmas.{IsId-from_is_id}
use Rattle.vc_object_map.specs.Store.{objects, IsDamaged}
use Rattle.vc_object_map.specs.StoreFault.{IsOfPut}
use Rattle.vc_index.specs.Building.{Building}
use Rattle.vc_index.specs.IndexMap.{index_entry}
use Rattle.vc_index.specs.Part.{part_entry}
use Rattle.vc_index.specs.WrittenTrees.{IsOfWrite}
use Rattle.vc_index.specs.declared.faults.IndexFault.TheVariants.{Store}
use Rattle.vc_index.specs.declared.trees.Part.{Part}
use Rattle.vc_index.proofs.ClosingLemmas.{closing, closing_shorter, stored_one, handed_on, still_damaged}
use Rattle.vc_index.proofs.StandingLemmas.{stands_none, closing_refused, closing_stands}
use Rattle.vc_index.proofs.DamageLemmas.{damage_put}
use Rattle.vc_index.proofs.trees.close_folder.Goals as goal

pub returns-in_err-body-clause-stands : goal.returns-in_err-body-clause-stands
returns-in_err-body-clause-stands g c = λ m trees rest left b. stands_none g.F.Files.honest m rest trees c.args.parts.now.items (objects (g.F.Files.content c.args.files.now)) (objects (g.F.Files.content c.args.files.now)) b (λ _. refl)

pub returns-in_err-stored-clause-stands : goal.returns-in_err-stored-clause-stands
returns-in_err-stored-clause-stands g c = λ m trees rest left b. stands_none g.F.Files.honest m rest trees c.args.parts.now.items (objects (g.F.Files.content c.args.files.now)) (objects (g.F.Files.content c.put.new.files)) b (λ honest. ap objects (c.in_err-stored.ensures.puts.err honest))

pub returns-in_err-push-clause-stands : goal.returns-in_err-push-clause-stands
returns-in_err-push-clause-stands g c = λ m trees rest left b.
    let parts = c.args.parts.now.items in
    let start = c.start_of-start.result in
    let folder = c.args.folder.now in
    let body = c.in_ok-body.body.items in
    let es = map part_entry (drop start parts) in
    let inside = subst (λ (ps : List Part). AllByRecursion (λ (p : Part). length p.folder.now ≡ length folder) (drop start ps)) c.deref.ensures.value c.start_of-start.ensures.inside in
    let is : body ≡ spelling es = c.in_ok-body.ensures ∙ ap (λ ps. spelling (map part_entry ps)) (c.split_at.ensures.back ∙ ap (drop start) c.as_slice.ensures.value) in
    closing_stands m trees rest parts start folder b c.requires.last c.requires.some inside
    (λ fs p e. c.start_of-start.ensures.above fs p (ap (take start) c.deref.ensures.value ∙ e)) left
    g.F.Files.honest (objects (g.F.Files.content c.args.files.now)) (objects (g.F.Files.content c.put.new.files))
    (subst (λ (t : List ℕ). length t ≤ 16777216) (c.deref-2.ensures.value ∙ is) (c.in_ok-stored.ensures.answers.legal refl).size, tt)
    (λ honest. stored_one (objects (g.F.Files.content c.args.files.now)) (objects (g.F.Files.content c.put.new.files)) c.in_ok-stored.stored c.deref-2.result.now es (c.deref-2.ensures.value ∙ is) c.in_ok-stored.ensures.answers.name (c.in_ok-stored.ensures.puts.objects honest))

pub returns-in_err-stored-clause-refused : goal.returns-in_err-stored-clause-refused
returns-in_err-stored-clause-refused g c = λ m trees rest left fits b.
    let content = g.F.Files.content in
    let parts = c.args.parts.now.items in
    let start = c.start_of-start.result in
    let folder = c.args.folder.now in
    let body = c.in_ok-body.body.items in
    let es = map part_entry (drop start parts) in
    let fault = c.in_err-stored.field-0.0 in
    let Damage = λ (id : ObjectId). g.F.Files.honest → IsDamaged (content c.put.new.files) id in
    let inside = subst (λ (ps : List Part). AllByRecursion (λ (p : Part). length p.folder.now ≡ length folder) (drop start ps)) c.deref.ensures.value c.start_of-start.ensures.inside in
    let is : body ≡ spelling es = c.in_ok-body.ensures ∙ ap (λ ps. spelling (map part_entry ps)) (c.split_at.ensures.back ∙ ap (drop start) c.as_slice.ensures.value) in
    handed_on (IsOfWrite m Damage) (Store fault) c.from_residual-in_err-stored.result c.from_residual-in_err-stored.ensures.1
    (closing_refused m trees rest parts start folder b c.requires.last c.requires.some inside
    (λ fs p e. c.start_of-start.ensures.above fs p (ap (take start) c.deref.ensures.value ∙ e)) left Damage body fault fits is
    (subst (λ (t : List ℕ). IsOfPut kinds.Tree t fault) c.deref-2.ensures.value c.in_err-stored.ensures.answers.refused)
    (λ id e honest. still_damaged (content c.args.files.now) (content c.put.new.files) fault id (c.in_err-stored.ensures.puts.err honest) (c.in_err-stored.ensures.puts.damaged honest) e))

pub returns-clause-closes : goal.returns-clause-closes
returns-clause-closes g c = λ m trees rest left b.
    let parts = c.args.parts.now.items in
    let start = c.start_of-start.result in
    let folder = c.args.folder.now in
    let body = c.in_ok-body.body.items in
    let es = map part_entry (drop start parts) in
    let inside = subst (λ (ps : List Part). AllByRecursion (λ (p : Part). length p.folder.now ≡ length folder) (drop start ps)) c.deref.ensures.value c.start_of-start.ensures.inside in
    let is : body ≡ spelling es = c.in_ok-body.ensures ∙ ap (λ ps. spelling (map part_entry ps)) (c.split_at.ensures.back ∙ ap (drop start) c.as_slice.ensures.value) in
    let part : Part = record { folder = c.split_path.result.0; name = c.split_path.result.1; entry = index_entry modes.Tree c.named-id.result } in
    let pushes : c.push.new.self.items ≡ take start parts ++ part ∷ [] = c.in_ok-push.ensures.items ∙ ap (λ ps. ps ++ part ∷ []) c.truncate.ensures.items in
    record {
      more = es ∷ [];
      building = subst (λ (ps : List Part). Building m (trees ++ es ∷ []) ps rest) (sym pushes) (closing m trees rest parts start folder b c.requires.last c.requires.some inside
          (λ fs p e. c.start_of-start.ensures.above fs p (ap (take start) c.deref.ensures.value ∙ e))
          part c.named-id.result body is (sym c.split_path.ensures.is ∙ c.split_at-2.ensures.front) c.split_path.ensures.name c.split_path.ensures.folder refl
          (c.named-id.ensures.same ∙ c.in_ok-stored.ensures.answers.name ∙ ap (object_name kinds.Tree) c.deref-2.ensures.value) (IsId-from_is_id c.named-id.result (ap is_id c.named-id.ensures.same ∙ c.named-id.ensures.valid)).sized left);
      fits = (subst (λ (t : List ℕ). length t ≤ 16777216) (c.deref-2.ensures.value ∙ is) (c.in_ok-stored.ensures.answers.legal refl).size, tt);
      stored = λ honest. stored_one (objects (g.F.Files.content c.args.files.now)) (objects (g.F.Files.content c.put.new.files)) c.in_ok-stored.stored c.deref-2.result.now es (c.deref-2.ensures.value ∙ is) c.in_ok-stored.ensures.answers.name (c.in_ok-stored.ensures.puts.objects honest);
    }

pub returns-clause-stands : goal.returns-clause-stands
returns-clause-stands g c = λ m trees rest left b.
    let parts = c.args.parts.now.items in
    let start = c.start_of-start.result in
    let folder = c.args.folder.now in
    let body = c.in_ok-body.body.items in
    let es = map part_entry (drop start parts) in
    let inside = subst (λ (ps : List Part). AllByRecursion (λ (p : Part). length p.folder.now ≡ length folder) (drop start ps)) c.deref.ensures.value c.start_of-start.ensures.inside in
    let is : body ≡ spelling es = c.in_ok-body.ensures ∙ ap (λ ps. spelling (map part_entry ps)) (c.split_at.ensures.back ∙ ap (drop start) c.as_slice.ensures.value) in
    closing_stands m trees rest parts start folder b c.requires.last c.requires.some inside
    (λ fs p e. c.start_of-start.ensures.above fs p (ap (take start) c.deref.ensures.value ∙ e)) left
    g.F.Files.honest (objects (g.F.Files.content c.args.files.now)) (objects (g.F.Files.content c.put.new.files))
    (subst (λ (t : List ℕ). length t ≤ 16777216) (c.deref-2.ensures.value ∙ is) (c.in_ok-stored.ensures.answers.legal refl).size, tt)
    (λ honest. stored_one (objects (g.F.Files.content c.args.files.now)) (objects (g.F.Files.content c.put.new.files)) c.in_ok-stored.stored c.deref-2.result.now es (c.deref-2.ensures.value ∙ is) c.in_ok-stored.ensures.answers.name (c.in_ok-stored.ensures.puts.objects honest))

pub returns-clause-shorter : goal.returns-clause-shorter
returns-clause-shorter g c =
    let start = c.start_of-start.result in
    let part : Part = record { folder = c.split_path.result.0; name = c.split_path.result.1; entry = index_entry modes.Tree c.named-id.result } in
    let pushes : c.push.new.self.items ≡ take start c.args.parts.now.items ++ part ∷ [] = c.in_ok-push.ensures.items ∙ ap (λ ps. ps ++ part ∷ []) c.truncate.ensures.items in
    rw pushes (closing_shorter (take start c.args.parts.now.items) part c.args.folder.now c.requires.some (sym c.split_path.ensures.is ∙ c.split_at-2.ensures.front))

pub returns-in_err-push-clause-undamaged : goal.returns-in_err-push-clause-undamaged
returns-in_err-push-clause-undamaged g c = λ honest.
    let content = g.F.Files.content in
    damage_put (content c.args.files.now) (content c.put.new.files) kinds.Tree c.deref-2.result.now c.in_ok-stored.stored c.in_ok-stored.ensures.answers.name c.named-id.ensures.valid (c.in_ok-stored.ensures.puts.files honest) (c.in_ok-stored.ensures.puts.objects honest)

pub returns-clause-undamaged : goal.returns-clause-undamaged
returns-clause-undamaged g c = λ honest.
    let content = g.F.Files.content in
    damage_put (content c.args.files.now) (content c.put.new.files) kinds.Tree c.deref-2.result.now c.in_ok-stored.stored c.in_ok-stored.ensures.answers.name c.named-id.ensures.valid (c.in_ok-stored.ensures.puts.files honest) (c.in_ok-stored.ensures.puts.objects honest)
