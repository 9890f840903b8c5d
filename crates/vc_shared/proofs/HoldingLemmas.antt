-- What stays of a held node where files change.
use Rattle.std.proofs.Common.{◌≡◌, ◌≢◌, ◌<◌, ◌^◌, ◌++◌, arith, ℕ, Bool, true, false, nat_eq, length, List, Option, Some, None, refl, sym, ap, ◌∙◌, subst}
use Rattle.std.specs.Prelude.{bytes_eq, codes, slice_set}
use Rattle.std.specs.FinMap as files
use Rattle.std.specs.List.{starts_with}
use Rattle.std.proofs.lemmas.List.{get_or-set_same, get_or-set_other}
use Rattle.std.proofs.lemmas.Option.{unwrap_or-slice_get}
use Rattle.vc_files.specs.FileMap.{FileMap, SameOutside}
use Rattle.vc_lemmas.proofs.Texts.{split_from_starts}
use Rattle.vc_model.specs.Push.{OpenPush}
use Rattle.vc_local.specs.IndexFile.{index_bytes}
use Rattle.vc_local.proofs.BesideLemmas.{SameBeside, beside_by}
use Rattle.vc_refs.specs.Head.{KeepsOutside, KeepsTheRest, head_of}
use Rattle.vc_refs.specs.Refs.{packed_path}
use Rattle.vc_rules.proofs.OpenPushLaws.{others_stay}
use Rattle.vc_quarantine.specs.Clean.{MakesNoneBad}
use Rattle.vc_quarantine.proofs.CleanLemmas.{bad_same}
use Rattle.vc_push_rules.proofs.FrameLemmas.{other_slot}
use Rattle.vc_history.proofs.StoredLemmas.{keeps_same, numbers_kept}
use Rattle.vc_history.specs.Stored.{AgreesIn, KeepsObjects}
use Rattle.vc_history.specs.declared.generations.Generations.{Generations}
use Rattle.vc_known.proofs.StoredLemmas.{known_kept}
use Rattle.vc_known.specs.Known.{Agrees}
use Rattle.vc_known.specs.declared.known.Known.{Known}
use Rattle.vc_object_map.specs.Store.{objects}
use Rattle.vc_push_rules.specs.Quarantine.{IsDropped, quarantine_folder}
use Rattle.vc_push_rules.specs.Session.{SessionText}
use Rattle.vc_push_rules.specs.Steps.{EndsUpdate, Steps}
use Rattle.vc_push_rules.specs.declared.stage.Stepped.{Stepped as SessionStep}
use Rattle.vc_push_rules.specs.declared.stage.Stepped.TheVariants as session
use Rattle.vc_shared.specs.Holding.{HoldsSlot, KeepsGood}
use Rattle.vc_shared.specs.Slots.{slot_of}

-- ---- slots
pub slot_set : (slots : List (Option SessionText)) (k : ℕ) (v : Option SessionText) → k < length slots → slot_of (slice_set slots k v) k ≡ v
slot_set slots k v within = unwrap_or-slice_get (slice_set slots k v) k None ∙ get_or-set_same slots k v None within

pub slot_other : (slots : List (Option SessionText)) (k j : ℕ) (v : Option SessionText) → j ≢ k → slot_of (slice_set slots k v) j ≡ slot_of slots j
slot_other slots k j v apart = unwrap_or-slice_get (slice_set slots k v) j None ∙ get_or-set_other slots k j v None apart ∙ sym (unwrap_or-slice_get slots j None)

-- ---- HEAD and the index are the same
pub beside_same : (old new : FileMap) → new ≡ old → SameBeside old new
beside_same old new same = record { head = ap head_of same; index = ap index_bytes same }

pub beside_slot : (slot : ℕ) (old new : FileMap) → SameOutside (quarantine_folder slot) old new → SameBeside old new
beside_slot slot old new same = beside_by old new (same.at (codes "HEAD") refl) (same.at (codes "index") refl)

pub beside_objects : (old new : FileMap) → SameOutside (codes "objects/") old new → SameBeside old new
beside_objects old new same = beside_by old new (same.at (codes "HEAD") refl) (same.at (codes "index") refl)

pub beside_ref : (name : List ℕ) (old new : FileMap) → KeepsTheRest name old new → SameBeside old new
beside_ref name old new rest = beside_by old new (rest.outside.at (codes "HEAD") refl refl) (rest.outside.at (codes "index") refl refl)

beside_outside : (old new : FileMap) → KeepsOutside old new → SameBeside old new
beside_outside old new rest = beside_by old new (rest.at (codes "HEAD") refl refl) (rest.at (codes "index") refl refl)

pub beside_update : (old new : FileMap) (atomic : Bool) (names : List (List ℕ)) → EndsUpdate atomic names old new → SameBeside old new
beside_update old new false names same = beside_same old new same
beside_update old new true names (same, rest) = beside_outside old new rest.outside

pub steps_beside : (old new : FileMap) (s t : SessionText) (did : SessionStep) → Steps old new s t did → SameBeside old new
steps_beside old new s t (session.Checked n) h = beside_same old new h.files
steps_beside old new s t session.Migrated h = beside_objects old new h.outside
steps_beside old new s t (session.Updated name found) h = beside_ref name.items old new h.rest
steps_beside old new s t (session.Atomic n) h = beside_outside old new h.rest.outside
steps_beside old new s t (session.AtomicRefused name reason) h = beside_same old new h.files
steps_beside old new s t (session.Finished report) h = beside_slot s.slot old new h.outside

-- ---- a quarantine that is empty
abbrev SameThere : FileMap → FileMap → ℕ → Type 0
SameThere old new slot = (path : List ℕ) → starts_with nat_eq path (quarantine_folder slot) ≡ true → files.get new path ≡ files.get old path

pub dropped_on : (old new : FileMap) (slot : ℕ) → SameThere old new slot → IsDropped slot old → IsDropped slot new
dropped_on old new slot same dropped path h = same path h ∙ dropped path h

beyond : (prefix : List ℕ) (slot : ℕ) → ((rest : List ℕ) → starts_with nat_eq (quarantine_folder slot ++ rest) prefix ≡ false) → (old new : FileMap) → SameOutside prefix old new → SameThere old new slot
beyond prefix slot apart old new same path h =
    same.at path (ap (λ p. starts_with nat_eq p prefix) (split_from_starts path (quarantine_folder slot) h) ∙ apart _)

-- a change of a ref is none there
pub beyond_refs : (slot : ℕ) (old new : FileMap) → KeepsOutside old new → SameThere old new slot
beyond_refs slot old new same path h =
    let is = split_from_starts path (quarantine_folder slot) h in
    same.at path (ap (λ p. starts_with nat_eq p (codes "refs/")) is) (ap (λ p. bytes_eq p packed_path) is)

-- nor is one of what is stored
pub beyond_objects : (slot : ℕ) (old new : FileMap) → SameOutside (codes "objects/") old new → SameThere old new slot
beyond_objects slot old new same = beyond (codes "objects/") slot (λ rest. refl) old new same

pub steps_dropped : (old new : FileMap) (s t : SessionText) (did : SessionStep) (slot : ℕ) → s.slot < 2 ^ 64 → slot < 2 ^ 64 → slot ≢ s.slot → Steps old new s t did → IsDropped slot old → IsDropped slot new
steps_dropped old new s t (session.Checked n) slot small fits apart h dropped = subst (IsDropped slot) (sym h.files) dropped
steps_dropped old new s t session.Migrated slot small fits apart h dropped = dropped_on old new slot (beyond (codes "objects/") slot (λ rest. refl) old new h.outside) dropped
steps_dropped old new s t (session.Updated name found) slot small fits apart h dropped = dropped_on old new slot (beyond_refs slot old new h.rest.outside) dropped
steps_dropped old new s t (session.Atomic n) slot small fits apart h dropped = dropped_on old new slot (beyond_refs slot old new h.rest.outside) dropped
steps_dropped old new s t (session.AtomicRefused name reason) slot small fits apart h dropped = subst (IsDropped slot) (sym h.files) dropped
steps_dropped old new s t (session.Finished report) slot small fits apart h dropped =
    dropped_on old new slot (beyond (quarantine_folder s.slot) slot (λ rest. other_slot s.slot slot rest small fits apart) old new h.outside) dropped

-- ---- the other slots
pub slot_stays : (old new : FileMap) (s t : SessionText) (did : SessionStep) (slot : ℕ) → s.slot < 8 → slot < 8 → slot ≢ s.slot → Steps old new s t did → MakesNoneBad old new
    → (v : Option SessionText) (q : Option OpenPush) → HoldsSlot old slot v q → HoldsSlot new slot v q
slot_stays old new s t did slot small fits apart h bad None None dropped = steps_dropped old new s t did slot (omega (arith, small)) (omega (arith, fits)) apart h dropped
slot_stays old new s t did slot small fits apart h bad (Some u) (Some q) (at, push, clean) =
    (at, others_stay old new s t u did q (omega (arith, small)) (omega (arith, fits, at)) (λ same. apart (sym at ∙ same)) h push, λ id damaged. clean id (bad.quarantines slot (omega (arith, fits)) id damaged))
slot_stays old new s t did slot small fits apart h bad None (Some q) never = never
slot_stays old new s t did slot small fits apart h bad (Some u) None never = never

-- where each object stays, what is known of generations still agrees, and so does what is known of objects
pub both_kept : (old new : FileMap) (generations : Generations) (known : Known) → KeepsObjects old new → AgreesIn old generations × Agrees (objects old) known → AgreesIn new generations × Agrees (objects new) known
both_kept old new generations known keeps both = (numbers_kept old new keeps generations both.0, known_kept old new known keeps both.1)

-- what changed nothing
pub good_same : (old new : FileMap) → new ≡ old → KeepsGood old new
good_same old new same = record { objects = keeps_same old new same; bad = bad_same old new same }
