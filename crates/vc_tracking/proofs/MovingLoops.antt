-- The loop over what is told: what is told so far, the next one and the rest; and what is blamed of files that none of it made bad.
use Rattle.std.proofs.Common.{◌≡◌, inr, ℕ, suc, ◌<◌, ◌+◌, List, [], ◌∷◌, ◌++◌, length, take, drop, get_or, refl, sym, ap, ◌∙◌, subst, drop-cons}
use Rattle.std.specs.Prelude.{IfErr, Result, Ok, Err, Vec, codes, string_bytes}
use Rattle.std.specs.Global.{Global}
use Rattle.std.proofs.lemmas.List.{take-append-drop, take_more}
use Rattle.vc_files.specs.FileMap.{FileMap, SameOutside}
use Rattle.vc_history.specs.Stored.{AgreesIn}
use Rattle.vc_history.specs.declared.generations.Generations.{Generations}
use Rattle.vc_object.specs.ObjectMap.{ObjectMap}
use Rattle.vc_object.specs.declared.id.ObjectId.{ObjectId}
use Rattle.vc_refs.specs.RefFault.{BlamesPacked}
use Rattle.vc_refs.specs.Refs.{packed_map, packed_path}
use Rattle.vc_refs.specs.declared.faults.RefFault.{RefFault}
use Rattle.vc_refs.specs.declared.faults.RefFault.TheVariants as of_refs
use Rattle.vc_refs.proofs.LayeredLemmas.{packed_map-same}
use Rattle.vc_quarantine.specs.Known.{AreWhole}
use Rattle.vc_quarantine.specs.declared.known.Known.{Known}
use Rattle.vc_push_rules.proofs.FrameLemmas.{objects-same}
use Rattle.vc_history.proofs.StoredLemmas.{numbers_kept}
use Rattle.vc_quarantine.proofs.KeepingLemmas.{keeps_beside}
use Rattle.vc_quarantine.specs.Clean.{MakesNoneBad}
use Rattle.vc_object_map.specs.Store.{object_path, objects}
use Rattle.vc_object_map.specs.declared.faults.StoreFault.TheVariants as of_store
use Rattle.vc_tracking.specs.Faults.{BlamesFiles, from_refs}
use Rattle.vc_tracking.specs.Moving.{Told, told_in}
use Rattle.vc_tracking.specs.declared.fault.ExchangeFault.{ExchangeFault}
use Rattle.vc_tracking.specs.declared.fault.ExchangeFault.TheVariants as exchange

abbrev pub Item : Type 0
Item = Vec ℕ Global × ObjectId

abbrev pub told_of : Item → Told
told_of item = (item.0.items, item.1)

pub told_append : (a b : List Item) → told_in (a ++ b) ≡ told_in a ++ told_in b
told_append [] b = refl
told_append (t ∷ a) b = ap (λ (l : List Told). told_of t ∷ l) (told_append a b)

module _ (told : List Item) (i : ℕ) where
  pub front_rest : told_in (take i told) ++ told_in (drop i told) ≡ told_in told
  front_rest = sym (told_append (take i told) (drop i told)) ∙ ap told_in (take-append-drop i told)

  module _ (item : Item) (within : i < length told) (is : item ≡ get_or told i item) where
    pub front_more : told_in (take i told) ++ told_of item ∷ [] ≡ told_in (take (i + 1) told)
    front_more = sym (told_append (take i told) (item ∷ [])) ∙ ap (λ (x : Item). told_in (take i told ++ x ∷ [])) is ∙ ap told_in (sym (take_more told i item within))

    pub front_next : told_in (take i told) ++ told_of item ∷ told_in (drop (suc i) told) ≡ told_in told
    front_next = ap (λ (x : Item). told_in (take i told) ++ told_of x ∷ told_in (drop (suc i) told)) is ∙ ap (λ (l : List Item). told_in (take i told) ++ told_in l) (sym (drop-cons told i item within)) ∙ front_rest

-- what the packed file says stays so where refs alone are set
pub packed_kept : (old new : FileMap) → SameOutside (codes "refs/") old new → packed_map new ≡ packed_map old
packed_kept old new outside = packed_map-same old new (outside.at packed_path refl)

-- a bad packed file is a bad file of the clone
pub packed_blames : (content : FileMap) (e : RefFault) → BlamesPacked content e → BlamesFiles content (from_refs e)
packed_blames content (of_refs.Stale current) h = h
packed_blames content (of_refs.Conflict other) h = h
packed_blames content (of_refs.BadRefFile path) h = inr h
packed_blames content of_refs.HeadLoop h = h
packed_blames content (of_refs.Fault fault) h = tt

-- what is whole stays so where no object changes
pub objects_stay : (old new : FileMap) → SameOutside (codes "refs/") old new → objects new ≡ objects old
objects_stay old new outside i id = objects-same old new id (outside.at (object_path id.0) refl) i

pub whole_after : (old new : FileMap) (known : Known) → SameOutside (codes "refs/") old new → AreWhole (objects old) known → AreWhole (objects new) known
whole_after old new known outside whole = subst (λ (o : ObjectMap). AreWhole o known) (sym (objects_stay old new outside)) whole

-- so do numbers that agree
pub agrees_after : (old new : FileMap) (generations : Generations) → SameOutside (codes "refs/") old new → AgreesIn old generations → AgreesIn new generations
agrees_after old new generations outside agrees = numbers_kept old new (keeps_beside old new (λ id. objects-same old new id (outside.at (object_path id.0) refl))) generations agrees

-- what is blamed of files that none of it made bad is blamed of them as they were
pub blames_before : (old new : FileMap) → MakesNoneBad old new → (e : ExchangeFault) → BlamesFiles new e → BlamesFiles old e
blames_before old new none (exchange.Store (of_store.BadObject fault)) b = b
blames_before old new none (exchange.Store (of_store.Absent id)) b = b
blames_before old new none (exchange.Store (of_store.Damaged id)) b = none.objects id b
blames_before old new none (exchange.Store (of_store.Fault fault)) b = tt
blames_before old new none (exchange.Refs (of_refs.Stale current)) b = b
blames_before old new none (exchange.Refs (of_refs.Conflict name)) b = b
blames_before old new none (exchange.Refs (of_refs.BadRefFile path)) b = none.refs (string_bytes path) b
blames_before old new none (exchange.Refs of_refs.HeadLoop) b = b
blames_before old new none (exchange.Refs (of_refs.Fault fault)) b = tt
blames_before old new none (exchange.Incomplete id) b = b
blames_before old new none (exchange.Fault fault) b = tt

pub told_err : {A E : Type 0} (r : Result A E) (e : E) (P : E → Type 0) → r ≡ Err e → P e → IfErr r P
told_err (Ok a) e P is p = absurd (cc is)
told_err (Err f) e P is p = let same : f ≡ e = cc in subst P (sym same) p
