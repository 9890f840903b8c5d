-- Changes of several refs, one after the other: what they make of a map, and which of them may be made.
use Rattle.std.proofs.Common.{◌≡◌, ℕ, suc, ◌+◌, ◌<◌, Bool, true, false, cond, ◌||◌, ◌⊎◌, inl, inr, true≢false, List, [], ◌∷◌, ◌++◌, take, drop, length, get_or, Option, Some, None, Err, sym, ap, refl, ◌∙◌, subst, append_assoc, append-nil, drop-cons}
use Rattle.std.specs.Prelude.{bytes_eq, is_some}
use Rattle.std.specs.Ordering.{nat_cmp, eq_by_cmp}
use Rattle.std.specs.declared.cmp.Ordering.{Ordering}
use Rattle.std.specs.Cmp.Lexicographic.{slice_cmp, nat_list_cmp_total}
use Rattle.std.specs.FinMap.{get-insert, get-remove, insert, remove}
use Rattle.std.specs.FinMap as files
use Rattle.std.proofs.lemmas.Bool.{false_from_ne_true, or_cases, or_from, or_left, or_parts, or_right}
use Rattle.std.proofs.lemmas.List.{map-append, take-append-drop, take_more}
use Rattle.std.proofs.lemmas.List.Elements.{All-get_or, All-head, All-tail}
use Rattle.std.proofs.lemmas.List.Folds.{list_any-append}
use Rattle.std.proofs.lemmas.Map.Text.{is_eq-slice_cmp}
use Rattle.vc_files.specs.FileMap.{FileMap}
use Rattle.vc_files.specs.Path.{is_above}
use Rattle.vc_files.specs.declared.faults.Fault.{Fault as Cause}
use Rattle.vc_object.specs.declared.id.ObjectId.{ObjectId}
use Rattle.vc_refs.specs.Obstacle.{is_held, IsFree}
use Rattle.vc_refs.specs.Packed.{PackedMap}
use Rattle.vc_refs.specs.Packing.{is_one_of, IsMapOf}
use Rattle.vc_refs.specs.RefFault.{BlamesObstacle, BlamesPacked, BlamesRemove, IsFault, TellsDevice}
use Rattle.vc_refs.specs.RefMap.{RefMap, IsInRefs, IsRefMap, conflicts, is_ref, with_ref, without_ref}
use Rattle.vc_refs.specs.Refs.{IsBadLoose, IsGoodPackedFile}
use Rattle.vc_refs.specs.SetAll.{first_conflicting, names_of, placed, with_change, with_changes, AreNamedInRefs, BlamesChange, BlamesNext, BlamesSetAll, IsRefusedAt, MayChange, MayChangeAfter, TellsDeviceOfAll}
use Rattle.vc_refs.specs.declared.changes.RefChange.{RefChange}
use Rattle.vc_refs.specs.declared.changes.SetAllFault.{SetAllFault}
use Rattle.vc_refs.specs.declared.changes.SetAllFault.TheVariants.{At, Whole}
use Rattle.vc_refs.specs.declared.faults.RefFault.{RefFault}
use Rattle.vc_refs.specs.declared.faults.RefFault.TheVariants.{Stale, Conflict, BadRefFile, HeadLoop, Fault}
use Rattle.vc_refs.proofs.ObstacleLemmas.{no_own_folder}
use Rattle.vc_refs.proofs.PathLemmas.{same_path}
use Rattle.vc_refs.proofs.RefsLemmas.{IsRefMap-with_ref, IsRefMap-without_ref}

abbrev by_bytes : List ℕ → List ℕ → Ordering
by_bytes = slice_cmp nat_cmp

nothing : (x : List ℕ) → None ≡ Some x → ⊥
nothing x e = cc e

-- ---- what they make of a map
change_is : (map : RefMap) (change : RefChange) (q : List ℕ) → with_change map change q ≡ cond (bytes_eq q change.name) change.new (map q)
unfolding with_change
change_is map change q = refl

change_other : (map : RefMap) (change : RefChange) (q : List ℕ) → bytes_eq q change.name ≡ false → with_change map change q ≡ map q
unfolding with_change
change_other map change q other = ap (λ b. cond b change.new (map q)) other

change_same : (f g : RefMap) (change : RefChange) (q : List ℕ) → f q ≡ g q → with_change f change q ≡ with_change g change q
unfolding with_change
change_same f g change q same = ap (λ v. cond (bytes_eq q change.name) change.new v) same

-- a name has after them what it has before them and what they say of it
pub changes_same : (changes : List RefChange) (f g : RefMap) (q : List ℕ) → f q ≡ g q → with_changes f changes q ≡ with_changes g changes q
changes_same [] f g q same = same
changes_same (c ∷ changes) f g q same = changes_same changes (with_change f c) (with_change g c) q (change_same f g c q same)

-- and what it had, if they say nothing of it
pub changes_other : (changes : List RefChange) (f : RefMap) (q : List ℕ) → is_one_of q (names_of changes) ≡ false → with_changes f changes q ≡ f q
changes_other [] f q other = refl
changes_other (c ∷ changes) f q other =
    let parts = or_parts (eq_by_cmp by_bytes q c.name) (is_one_of q (names_of changes)) other in
    changes_other changes (with_change f c) q parts.1 ∙ change_other f c q (sym (is_eq-slice_cmp q c.name) ∙ parts.0)

-- one more
pub changes_push : (changes : List RefChange) (f : RefMap) (c : RefChange) → with_changes f (changes ++ c ∷ []) ≡ with_change (with_changes f changes) c
changes_push [] f c = refl
changes_push (d ∷ changes) f c = changes_push changes (with_change f d) c

-- a finite map in which one is made
pub change_set : (m n : PackedMap) (c : RefChange) (id : ObjectId) → c.new ≡ Some id → n ≡ insert m c.name id → IsMapOf (with_change (files.get m) c) n
change_set m n c id is made q =
    ap (λ (k : PackedMap). files.get k q) made ∙ get-insert nat_list_cmp_total m c.name id q ∙ ap (λ b. cond b (Some id) (files.get m q)) (is_eq-slice_cmp q c.name)
    ∙ ap (λ v. cond (bytes_eq q c.name) v (files.get m q)) (sym is) ∙ sym (change_is (files.get m) c q)

pub change_removed : (m n : PackedMap) (c : RefChange) → c.new ≡ None → n ≡ remove m c.name → IsMapOf (with_change (files.get m) c) n
change_removed m n c is made q =
    ap (λ (k : PackedMap). files.get k q) made ∙ get-remove nat_list_cmp_total m c.name q ∙ ap (λ b. cond b None (files.get m q)) (is_eq-slice_cmp q c.name)
    ∙ ap (λ v. cond (bytes_eq q c.name) v (files.get m q)) (sym is) ∙ sym (change_is (files.get m) c q)

-- the first ones, and one more of them
pub taken_next : (changes : List RefChange) (i : ℕ) (c : RefChange) → i < length changes → c ≡ get_or changes i c → take (i + 1) changes ≡ take i changes ++ c ∷ []
taken_next changes i c within is = take_more changes i c within ∙ ap (λ (x : RefChange). take i changes ++ x ∷ []) (sym is)

-- one more, after some
pub changes_more : (f : RefMap) (changes : List RefChange) (i : ℕ) (c : RefChange) (m n : PackedMap) → i < length changes → c ≡ get_or changes i c → IsMapOf (with_changes f (take i changes)) m → IsMapOf (with_change (files.get m) c) n
    → IsMapOf (with_changes f (take (i + 1) changes)) n
changes_more f changes i c m n within is before one q =
    one q ∙ change_same (files.get m) (with_changes f (take i changes)) c q (before q)
    ∙ ap (λ (g : RefMap). g q) (sym (changes_push (take i changes) f c)) ∙ ap (λ (cs : List RefChange). with_changes f cs q) (sym (taken_next changes i c within is))

-- a change that sets a ref, and one that removes it
set_is : (map : RefMap) (c : RefChange) (id : ObjectId) → c.new ≡ Some id → (q : List ℕ) → with_change map c q ≡ with_ref map c.name id q
unfolding with_change with_ref
set_is map c id is q = ap (λ v. cond (bytes_eq q c.name) v (map q)) is

removed_is : (map : RefMap) (c : RefChange) → c.new ≡ None → (q : List ℕ) → with_change map c q ≡ without_ref map c.name q
unfolding with_change without_ref
removed_is map c is q = ap (λ v. cond (bytes_eq q c.name) v (map q)) is

pub same_maps : (f g : RefMap) → ((q : List ℕ) → f q ≡ g q) → f ≡ g
same_maps f g same i q = same q i

IsRefMap-with_change : (map : RefMap) (c : RefChange) → is_ref c.name ≡ true → ((q : List ℕ) → is_some (map q) ≡ true → conflicts q c.name ≡ false) → IsRefMap map → IsRefMap (with_change map c)
IsRefMap-with_change map c legal free apart = by c.new refl
  where
    by : (o : Option ObjectId) → c.new ≡ o → IsRefMap (with_change map c)
    by (Some id) is = subst IsRefMap (sym (same_maps (with_change map c) (with_ref map c.name id) (set_is map c id is))) (IsRefMap-with_ref map c.name id legal free (no_own_folder c.name) apart)
    by None is = subst IsRefMap (sym (same_maps (with_change map c) (without_ref map c.name) (removed_is map c is))) (IsRefMap-without_ref map c.name apart)

-- ---- names of changes
pub named_more : (changes : List RefChange) (c : RefChange) (q : List ℕ) → is_one_of q (names_of (changes ++ c ∷ [])) ≡ (is_one_of q (names_of changes) || (eq_by_cmp by_bytes q c.name || false))
named_more changes c q = ap (is_one_of q) (map-append (λ (x : RefChange). x.name) changes (c ∷ [])) ∙ list_any-append (eq_by_cmp by_bytes q) (names_of changes) (c.name ∷ [])

pub named_inside : (changes : List RefChange) (q : List ℕ) → AreNamedInRefs changes → is_one_of q (names_of changes) ≡ true → IsInRefs q
named_inside [] q all among = absurd (true≢false (sym among))
named_inside (c ∷ changes) q all among = elim (or_cases (eq_by_cmp by_bytes q c.name) (is_one_of q (names_of changes)) among) [
  | inl here ↦ subst IsInRefs (sym (same_path q c.name here)) (All-head (λ (x : RefChange). IsInRefs x.name) c changes all)
  | inr more ↦ named_inside changes q (All-tail (λ (x : RefChange). IsInRefs x.name) c changes all) more
]

pub named_at : (changes : List RefChange) (i : ℕ) (c : RefChange) → AreNamedInRefs changes → i < length changes → c ≡ get_or changes i c → IsInRefs c.name
named_at changes i c all within is = subst (λ (x : RefChange). IsInRefs x.name) (sym is) (All-get_or (λ (x : RefChange). IsInRefs x.name) changes i c within all)

pub names_next : (changes : List RefChange) (i : ℕ) (c : RefChange) → i < length changes → c ≡ get_or changes i c → names_of (take (i + 1) changes) ≡ names_of (take i changes) ++ c.name ∷ []
names_next changes i c within is = ap names_of (taken_next changes i c within is) ∙ map-append (λ (x : RefChange). x.name) (take i changes) (c ∷ [])

-- the first ones, and those after them
pub dropped_here : (changes : List RefChange) (i : ℕ) (c : RefChange) → i < length changes → c ≡ get_or changes i c → drop i changes ≡ c ∷ drop (suc i) changes
dropped_here changes i c within is = drop-cons changes i c within ∙ ap (λ (x : RefChange). x ∷ drop (suc i) changes) (sym is)

whole_is : (changes : List RefChange) (i : ℕ) (c : RefChange) → i < length changes → c ≡ get_or changes i c → changes ≡ take i changes ++ c ∷ drop (suc i) changes
whole_is changes i c within is = sym (take-append-drop i changes) ∙ ap (λ (r : List RefChange). take i changes ++ r) (dropped_here changes i c within is)

-- ---- names of which no two may stand together
conflicting_front : (front back : List RefChange) (name : List ℕ) → first_conflicting front name ≡ None → first_conflicting (front ++ back) name ≡ first_conflicting back name
conflicting_front [] back name none = refl
conflicting_front (c ∷ front) back name none = by (conflicts c.name name) none (conflicting_front front back name)
  where
    by : (b : Bool) → cond b (Some c.name) (first_conflicting front name) ≡ None → (first_conflicting front name ≡ None → first_conflicting (front ++ back) name ≡ first_conflicting back name)
        → cond b (Some c.name) (first_conflicting (front ++ back) name) ≡ first_conflicting back name
    by true some later = absurd (nothing c.name (sym some))
    by false none later = later none

pub conflicting_here : (changes : List RefChange) (i : ℕ) (c : RefChange) (name : List ℕ) → i < length changes → c ≡ get_or changes i c → first_conflicting (take i changes) name ≡ None → conflicts c.name name ≡ true
    → first_conflicting changes name ≡ Some c.name
conflicting_here changes i c name within is none conflict =
    ap (λ (cs : List RefChange). first_conflicting cs name) (whole_is changes i c within is)
    ∙ conflicting_front (take i changes) (c ∷ drop (suc i) changes) name none
    ∙ ap (λ b. cond b (Some c.name) (first_conflicting (drop (suc i) changes) name)) conflict

pub conflicting_later : (changes : List RefChange) (i : ℕ) (c : RefChange) (name : List ℕ) → i < length changes → c ≡ get_or changes i c → first_conflicting (take i changes) name ≡ None → conflicts c.name name ≡ false
    → first_conflicting (take (i + 1) changes) name ≡ None
conflicting_later changes i c name within is none apart =
    ap (λ (cs : List RefChange). first_conflicting cs name) (taken_next changes i c within is)
    ∙ conflicting_front (take i changes) (c ∷ []) name none
    ∙ ap (λ b. cond b (Some c.name) None) apart

-- if none conflicts, each of them is apart
apart_from : (earlier : List RefChange) (name q : List ℕ) → first_conflicting earlier name ≡ None → is_one_of q (names_of earlier) ≡ true → conflicts q name ≡ false
apart_from [] name q none among = absurd (true≢false (sym among))
apart_from (c ∷ earlier) name q none among = by (conflicts c.name name) refl none (λ later. apart_from earlier name q later)
  where
    by : (b : Bool) → conflicts c.name name ≡ b → cond b (Some c.name) (first_conflicting earlier name) ≡ None → (first_conflicting earlier name ≡ None → is_one_of q (names_of earlier) ≡ true → conflicts q name ≡ false)
        → conflicts q name ≡ false
    by true is some later = absurd (nothing c.name (sym some))
    by false is none later = elim (or_cases (eq_by_cmp by_bytes q c.name) (is_one_of q (names_of earlier)) among) [
      | inl here ↦ ap (λ n. conflicts n name) (same_path q c.name here) ∙ is
      | inr more ↦ later none more
    ]

pub conflicts_back : (a b : List ℕ) → conflicts a b ≡ false → conflicts b a ≡ false
conflicts_back a b apart = let parts = or_parts (is_above a b) (is_above b a) apart in or_from (is_above b a) (is_above a b) parts.1 parts.0

-- no name that is held conflicts with one in whose way nothing is
pub held_apart : (content : FileMap) (name q : List ℕ) → IsFree content name → is_held content q ≡ true → conflicts q name ≡ false
held_apart content name q free held = false_from_ne_true _ (λ conflict. free.none q (record { held = held; conflict = conflict }))

-- ---- those that may be made
pub may_push : (content : FileMap) (earlier changes : List RefChange) (c : RefChange) → MayChangeAfter content earlier changes → MayChange content (earlier ++ changes) c → MayChangeAfter content earlier (changes ++ c ∷ [])
may_push content earlier [] c all one = (subst (λ (es : List RefChange). MayChange content es c) (append-nil earlier) one, tt)
may_push content earlier (d ∷ changes) c all one =
    (all.0, may_push content (earlier ++ d ∷ []) changes c all.1 (subst (λ (es : List RefChange). MayChange content es c) (sym (append_assoc earlier (d ∷ []) changes)) one))

-- a name of one of them: it is legal, nothing is in its way, and its own file is not bad
pub record IsOpen (content : FileMap) (name : List ℕ) : Type 0 where
  pub legal : is_ref name ≡ true
  pub free : IsFree content name
  pub good : IsBadLoose content name → ⊥

pub named_open : (content : FileMap) (earlier changes : List RefChange) → MayChangeAfter content earlier changes → (q : List ℕ) → is_one_of q (names_of changes) ≡ true → IsOpen content q
named_open content earlier [] may q among = absurd (true≢false (sym among))
named_open content earlier (c ∷ changes) may q among = elim (or_cases (eq_by_cmp by_bytes q c.name) (is_one_of q (names_of changes)) among) [
  | inl here ↦ subst (IsOpen content) (sym (same_path q c.name here)) (record { legal = may.0.alone.0; free = may.0.alone.1.free; good = may.0.alone.1.value.good })
  | inr more ↦ named_open content (earlier ++ c ∷ []) changes may.1 q more
]

-- a name of a map is held, or one of those
abbrev pub AreKnown : FileMap → List RefChange → RefMap → Type 0
AreKnown content earlier map = (q : List ℕ) → is_some (map q) ≡ true → (is_held content q ≡ true) ⊎ (is_one_of q (names_of earlier) ≡ true)

known_next : (content : FileMap) (earlier : List RefChange) (map : RefMap) (c : RefChange) → AreKnown content earlier map → AreKnown content (earlier ++ c ∷ []) (with_change map c)
known_next content earlier map c known q there = by (bytes_eq q c.name) refl
  where
    in_front : is_one_of q (names_of earlier) ≡ true → is_one_of q (names_of (earlier ++ c ∷ [])) ≡ true
    in_front among = named_more earlier c q ∙ or_left (is_one_of q (names_of earlier)) (eq_by_cmp by_bytes q c.name || false) among

    last : eq_by_cmp by_bytes q c.name ≡ true → is_one_of q (names_of (earlier ++ c ∷ [])) ≡ true
    last same = named_more earlier c q ∙ or_right (is_one_of q (names_of earlier)) (eq_by_cmp by_bytes q c.name || false) (or_left (eq_by_cmp by_bytes q c.name) false same)

    by : (b : Bool) → bytes_eq q c.name ≡ b → (is_held content q ≡ true) ⊎ (is_one_of q (names_of (earlier ++ c ∷ [])) ≡ true)
    by true same = inr (last (is_eq-slice_cmp q c.name ∙ same))
    by false other = elim (known q (ap is_some (sym (change_other map c q other)) ∙ there)) [ inl held ↦ inl held | inr among ↦ inr (in_front among) ]

-- so they leave a map of refs one
pub changes-IsRefMap : (content : FileMap) (earlier changes : List RefChange) (map : RefMap) → MayChangeAfter content earlier changes → AreKnown content earlier map → IsRefMap map → IsRefMap (with_changes map changes)
changes-IsRefMap content earlier [] map may known apart = apart
changes-IsRefMap content earlier (c ∷ changes) map may known apart =
    changes-IsRefMap content (earlier ++ c ∷ []) changes (with_change map c) may.1 (known_next content earlier map c known) (IsRefMap-with_change map c may.0.alone.0 free apart)
  where
    free : (q : List ℕ) → is_some (map q) ≡ true → conflicts q c.name ≡ false
    free q there = elim (known q there) [
      | inl held ↦ held_apart content c.name q may.0.alone.1.free held
      | inr among ↦ apart_from earlier c.name q may.0.apart among
    ]

-- ---- why one is refused
pub change_blames_way : (content : FileMap) (earlier : List RefChange) (c : RefChange) → IsGoodPackedFile content → (e : RefFault) → BlamesObstacle content c.name e → BlamesChange content earlier c e
change_blames_way content earlier c good (Stale current) h = absurd h
change_blames_way content earlier c good (Conflict other) h = inl h
change_blames_way content earlier c good (BadRefFile path) (inl line) = absurd (good line.1)
change_blames_way content earlier c good (BadRefFile path) (inr own) = (own.0, own.1, inl own.2)
change_blames_way content earlier c good HeadLoop h = h
change_blames_way content earlier c good (Fault fault) h = tt

pub change_blames_value : (content : FileMap) (earlier : List RefChange) (c : RefChange) → IsFree content c.name → first_conflicting earlier c.name ≡ None → (e : RefFault) → BlamesRemove content c.name c.expected e → BlamesChange content earlier c e
change_blames_value content earlier c free apart (Stale current) h = (free, apart, h)
change_blames_value content earlier c free apart (Conflict other) h = absurd h
change_blames_value content earlier c free apart (BadRefFile path) (inl line) = absurd (free.packed line.1)
change_blames_value content earlier c free apart (BadRefFile path) (inr own) = (own.0, subst (IsBadLoose content) (sym own.1) own.2, inr (own.1, free, apart))
change_blames_value content earlier c free apart HeadLoop h = h
change_blames_value content earlier c free apart (Fault fault) h = tt

at_place : {T : Type 0} {place : ℕ} {e : RefFault} → TellsDeviceOfAll {T = T} (Err (At place e)) → ⊥
at_place told = cc told

whole_told : {T : Type 0} (fault : Cause) → TellsDeviceOfAll {T = T} (Err (Whole (Fault fault))) → TellsDevice {T = T} (Err (Fault fault))
whole_told fault told = cc told

pub placed_blames : (content : FileMap) (earlier : List RefChange) (c : RefChange) (e : RefFault) → BlamesChange content earlier c e → BlamesNext content earlier c (placed (length earlier) e)
placed_blames content earlier c (Stale current) h = (refl, h, λ never. never)
placed_blames content earlier c (Conflict other) h = (refl, h, λ never. never)
placed_blames content earlier c (BadRefFile path) h = (refl, h, λ never. never)
placed_blames content earlier c HeadLoop h = absurd h
placed_blames content earlier c (Fault fault) h = tt

-- a fault of the device is told as one
pub placed_device : {T : Type 0} (place : ℕ) (e : RefFault) → TellsDeviceOfAll {T = T} (Err (placed place e)) → TellsDevice {T = T} (Err e)
placed_device place (Stale current) told = absurd (at_place told)
placed_device place (Conflict other) told = absurd (at_place told)
placed_device place (BadRefFile path) told = absurd (at_place told)
placed_device place HeadLoop told = absurd (at_place told)
placed_device place (Fault fault) told = whole_told fault told

pub next_blames : (content : FileMap) (changes : List RefChange) (i : ℕ) (c : RefChange) → IsGoodPackedFile content → i < length changes → c ≡ get_or changes i c → length (take i changes) ≡ i → MayChangeAfter content [] (take i changes) → (e : SetAllFault)
    → BlamesNext content (take i changes) c e → BlamesSetAll content changes e
next_blames content changes i c good within is long may (At place e) h =
    subst (λ n. IsRefusedAt content changes n e) (sym (h.0 ∙ long)) (record { packed = good; change = c; later = drop (suc i) changes; here = dropped_here changes i c within is; before = may; blames = h.1; refusal = h.2 })
next_blames content changes i c good within is long may (Whole e) h = whole e h
  where
    whole : (e : RefFault) → IsFault e → BlamesPacked content e
    whole (Stale current) h = absurd h
    whole (Conflict other) h = absurd h
    whole (BadRefFile path) h = absurd h
    whole HeadLoop h = absurd h
    whole (Fault fault) h = tt
