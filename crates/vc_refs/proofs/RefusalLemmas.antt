-- Changes that may be made at once are refused for a fault alone.
use Rattle.std.proofs.Common.{◌≡◌, ℕ, zero, suc, List, [], ◌∷◌, ◌++◌, take, drop, inl, inr, Some, None, sym, ◌∙◌, subst, append_assoc, append-nil}
use Rattle.std.specs.Prelude.{string_bytes}
use Rattle.vc_files.specs.FileMap.{FileMap}
use Rattle.vc_refs.specs.RefFault.{BlamesPacked, IsFault}
use Rattle.vc_refs.specs.Refs.{IsBadLoose, IsGoodPackedFile}
use Rattle.vc_refs.specs.SetAll.{BlamesChange, BlamesSetAll, IsFaultOfAll, MayChange, MayChangeAfter, MayChangeAll}
use Rattle.vc_refs.specs.declared.changes.RefChange.{RefChange}
use Rattle.vc_refs.specs.declared.changes.SetAllFault.{SetAllFault}
use Rattle.vc_refs.specs.declared.changes.SetAllFault.TheVariants.{At, Whole}
use Rattle.vc_refs.specs.declared.faults.RefFault.{RefFault}
use Rattle.vc_refs.specs.declared.faults.RefFault.TheVariants.{Stale, Conflict, BadRefFile, HeadLoop, Fault}

first_same : (c d : RefChange) (cs ds : List RefChange) → c ∷ cs ≡ d ∷ ds → c ≡ d
first_same c d cs ds e = cc

no_more : (d : RefChange) (ds : List RefChange) → [] ≡ d ∷ ds → ⊥
no_more d ds e = cc e

-- the change at a place may be made after those before it
at_place : (content : FileMap) (earlier changes : List RefChange) (place : ℕ) (change : RefChange) (later : List RefChange) → MayChangeAfter content earlier changes → drop place changes ≡ change ∷ later → MayChange content (earlier ++ take place changes) change
at_place content earlier [] zero change later may is = absurd (no_more change later is)
at_place content earlier [] (suc n) change later may is = absurd (no_more change later is)
at_place content earlier (c ∷ cs) zero change later may is =
    subst (λ (x : RefChange). MayChange content (earlier ++ []) x) (first_same c change cs later is) (subst (λ (es : List RefChange). MayChange content es c) (sym (append-nil earlier)) may.0)
at_place content earlier (c ∷ cs) (suc n) change later may is =
    subst (λ (es : List RefChange). MayChange content es change) (append_assoc earlier (c ∷ []) (take n cs)) (at_place content (earlier ++ c ∷ []) cs n change later may.1 is)

none_conflicting : (o : List ℕ) → None ≡ Some o → ⊥
none_conflicting o e = cc e

change_refused : (content : FileMap) (earlier : List RefChange) (change : RefChange) → MayChange content earlier change → (e : RefFault) → BlamesChange content earlier change e → IsFault e
change_refused content earlier change may (Stale current) b = absurd (b.2.other (sym b.2.is ∙ may.alone.1.value.current))
change_refused content earlier change may (Conflict other) b = elim b [
  | inl way ↦ absurd (may.alone.1.free.none other way.1.here)
  | inr among ↦ absurd (none_conflicting other (sym may.apart ∙ among.1))
]
change_refused content earlier change may (BadRefFile path) b = elim b.2 [
  | inl first ↦ absurd (may.alone.1.free.none (string_bytes path) first.here)
  | inr own ↦ absurd (may.alone.1.value.good (subst (IsBadLoose content) own.0 b.1))
]
change_refused content earlier change may HeadLoop b = absurd b
change_refused content earlier change may (Fault fault) b = tt

packed_refused : (content : FileMap) → IsGoodPackedFile content → (e : RefFault) → BlamesPacked content e → IsFault e
packed_refused content good (Stale current) b = absurd b
packed_refused content good (Conflict other) b = absurd b
packed_refused content good (BadRefFile path) b = absurd (good b.1)
packed_refused content good HeadLoop b = absurd b
packed_refused content good (Fault fault) b = tt

pub changes_refused : (content : FileMap) (changes : List RefChange) → MayChangeAll content changes → (e : SetAllFault) → BlamesSetAll content changes e → IsFaultOfAll e
changes_refused content changes may (At place e) b =
    absurd (b.refusal (change_refused content (take place changes) b.change (at_place content [] changes place b.change b.later may.each b.here) e b.blames))
changes_refused content changes may (Whole e) b = packed_refused content may.packed e b
