-- What stands where the writing of an index's trees ends early, and which tree the store did not take.
use Rattle.std.proofs.Common.{◌≡◌, ◌≢◌, ℕ, ◌<◌, ◌≤◌, ◌-◌, List, ◌∷◌, ◌++◌, map, Some, refl, sym, ap, ◌∙◌, subst, append_assoc, append-nil, length, take, drop, []}
use Rattle.std.specs.Prelude.{slice_get, option_map}
use Rattle.std.specs.List.{AllByRecursion}
use Rattle.vc_object.specs.Object.{object_name}
use Rattle.vc_object.specs.ObjectFault.{BodyFault, too_large, no_grammar}
use Rattle.vc_object.specs.ObjectMap.{ObjectMap}
use Rattle.vc_object.specs.Tree.{Entry, IsTree, spelling}
use Rattle.vc_object.specs.declared.fault.ObjectFault.{ObjectFault}
use Rattle.vc_object.specs.declared.fault.ObjectFault.TheVariants.{TooLarge}
use Rattle.vc_object.specs.declared.id.ObjectId.{ObjectId}
use Rattle.vc_object.specs.declared.kind.Kind.TheVariants as kinds
use Rattle.vc_object.proofs.Objects as grammar
use Rattle.vc_object_map.specs.Store.{with_objects}
use Rattle.vc_object_map.specs.StoreFault.{IsOfPut}
use Rattle.vc_object_map.specs.declared.faults.StoreFault.{StoreFault}
use Rattle.vc_object_map.specs.declared.faults.StoreFault.TheVariants.{BadObject, Absent, Damaged, Fault}
use Rattle.vc_index.specs.Building.{IsLeft, Building, Stands, Closes, IsInside}
use Rattle.vc_index.specs.FolderTrees.{AllFit, AreFirstTrees, AreIndexTrees, Fits}
use Rattle.vc_index.specs.HeldFiles.{Pair}
use Rattle.vc_index.specs.IndexMap.{IndexMap}
use Rattle.vc_index.specs.Part.{part_entry}
use Rattle.vc_index.specs.WrittenTrees.{tree_object, AreLowerTrees, HasTooLarge, IsOfFolder, IsOfTrees}
use Rattle.vc_index.specs.declared.trees.Part.{Part}
use Rattle.vc_index.proofs.ClosingLemmas.{closing_below, closing_each, closing_tree, path, root_each, root_listed, root_tree, stored_then}
use Rattle.vc_index.proofs.CompletionLemmas.{closed_whole, closed_part, completes}
use Rattle.vc_lemmas.proofs.Lists.{all_append}

-- ---- where a call ends early
module _ (honest : Type 0) (files : IndexMap) (rest : List Pair) (trees : List (List Entry)) where
  pub stands_none : (parts : List Part) (old new : ObjectMap) → Building files trees parts rest → (honest → new ≡ old) → Stands honest files trees old new
  stands_none parts old new b same = record {
    more = [];
    below = subst (AreLowerTrees files []) (sym (append-nil trees)) b.below;
    first = subst (AreFirstTrees files) (sym (append-nil trees)) (completes files rest trees parts b);
    fits = tt;
    stored = same;
  }

  pub stands_then : (mid : List Part) (old now new : ObjectMap) (first : Closes honest files rest trees mid old now) → Stands honest files (trees ++ first.more) now new → Stands honest files trees old new
  stands_then mid old now new first second = record {
    more = first.more ++ second.more;
    below = subst (AreLowerTrees files []) (append_assoc trees first.more second.more) second.below;
    first = subst (AreFirstTrees files) (append_assoc trees first.more second.more) second.first;
    fits = all_append Fits first.more second.more first.fits second.fits;
    stored = λ h. stored_then old now new first.more second.more (first.stored h) (second.stored h);
  }

  pub closes_stands : (parts : List Part) (old new : ObjectMap) → Closes honest files rest trees parts old new → Stands honest files trees old new
  closes_stands parts old new c = record {
    more = c.more;
    below = c.building.below;
    first = completes files rest (trees ++ c.more) parts c.building;
    fits = c.fits;
    stored = c.stored;
  }

-- ---- a tree that the store does not take
tree_refused : (files : IndexMap) (folder : List ℕ) (es : List Entry) (before after : List (List Entry)) (root : List Entry) (Damage : ObjectId → Type 0) (body : List ℕ) (fault : StoreFault)
    → IsTree es → AllByRecursion (IsOfFolder files folder) es → AllFit before → AreIndexTrees files (before ++ es ∷ after) root
    → body ≡ spelling es → IsOfPut kinds.Tree body fault → ((id : ObjectId) → fault ≡ Damaged id → Damage id) → IsOfTrees files Damage fault
tree_refused files folder es before after root Damage body (BadObject fault) sound each fits listed is put damaged = large fault put
  where
    large : (e : ObjectFault) → BodyFault kinds.Tree body e → (e ≡ TooLarge) × HasTooLarge files
    large e (too_large n same) =
        let long : 16777216 < length (spelling es) = subst (λ (t : List ℕ). 16777216 < length t) is n in
        (same, record { folder = folder; entries = es; tree = sound; each = each; large = long; first = record { before = before; after = after; root = root; listed = listed; fits = fits; large = long } })
    large e (no_grammar n f) = absurd (grammar.no_grammar kinds.Tree body e f (es, sound, is))
tree_refused files folder es before after root Damage body (Absent id) sound each fits listed is put damaged = put
tree_refused files folder es before after root Damage body (Damaged id) sound each fits listed is put damaged =
    let small : Fits es = subst (λ (t : List ℕ). length t ≤ 16777216) is put.0.size in
    (record { before = before; entries = es; after = after; root = root; listed = listed; fits = all_append Fits before (es ∷ []) fits (small, tt); is = put.1 ∙ ap (object_name kinds.Tree) is }, damaged id refl)
tree_refused files folder es before after root Damage body (Fault fault) sound each fits listed is put damaged = tt

module _ (files : IndexMap) (trees : List (List Entry)) (rest : List Pair) (parts : List Part) (start : ℕ) (folder : List ℕ)
    (b : Building files trees parts rest)
    (top : option_map (λ (p : Part). p.folder.now) (slice_get parts (length parts - 1)) ≡ Some folder)
    (some : 0 < length folder)
    (inside : AllByRecursion (λ g. length g.folder.now ≡ length folder) (drop start parts))
    (above : (fs : List Part) (g : Part) → take start parts ≡ fs ++ g ∷ [] → length g.folder.now ≢ length folder)
    (left : IsLeft folder rest)
  where
    abbrev es : List Entry
    es = map part_entry (drop start parts)

    closed_first : AreFirstTrees files (trees ++ es ∷ [])
    closed_first = completes files rest (trees ++ es ∷ []) (take start parts ++ closed_part files trees rest parts start folder b top some inside above left ∷ []) (closed_whole files trees rest parts start folder b top some inside above left)

    -- the folder's tree is stored
    pub closing_stands : (honest : Type 0) (old new : ObjectMap) → AllFit (es ∷ []) → (honest → new ≡ with_objects old (map tree_object (es ∷ []))) → Stands honest files trees old new
    closing_stands honest old new fits stored = record {
      more = es ∷ [];
      below = closing_below files trees rest parts start folder b top some inside above;
      first = closed_first;
      fits = fits;
      stored = stored;
    }

    -- the store takes the folder's tree, if it is not too large
    pub closing_refused : (Damage : ObjectId → Type 0) (body : List ℕ) (fault : StoreFault) → AllFit trees → body ≡ spelling es → IsOfPut kinds.Tree body fault → ((id : ObjectId) → fault ≡ Damaged id → Damage id) → IsOfTrees files Damage fault
    closing_refused Damage body fault fits is put damaged = tree_refused files ((path files trees rest parts start folder b top some inside above).0 ++ 47 ∷ []) es trees closed_first.rest closed_first.root Damage body fault
        (closing_tree files trees rest parts start folder b top some inside above) (closing_each files trees rest parts start folder b top some inside above) fits
        (subst (λ (ts : List (List Entry)). AreIndexTrees files ts closed_first.root) (append_assoc trees (es ∷ []) closed_first.rest) closed_first.listed) is put damaged

-- the store takes the root's tree, if it is not too large
pub root_refused : (files : IndexMap) (lower : List (List Entry)) (parts : List Part) → Building files lower parts [] → IsInside [] parts → (Damage : ObjectId → Type 0) (body : List ℕ) (fault : StoreFault)
    → AllFit lower → body ≡ spelling (map part_entry parts) → IsOfPut kinds.Tree body fault → ((id : ObjectId) → fault ≡ Damaged id → Damage id) → IsOfTrees files Damage fault
root_refused files lower parts b inside Damage body fault fits is put damaged = tree_refused files [] (map part_entry parts) lower [] (map part_entry parts) Damage body fault
    (root_tree files lower parts b inside) (root_each files lower parts b inside) fits (root_listed files lower parts b inside) is put damaged
