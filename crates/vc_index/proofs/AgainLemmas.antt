-- An index's text stands for one index, and bytes that are none have one place of fault.
use Rattle.std.proofs.Common.{◌≡◌, ◌≢◌, ℕ, List, ◌∷◌, ◌++◌, Option, Some, sym, ap, refl, ◌∙◌, length, append_assoc, append-nil, ◌⊎◌, inl, inr, ⊎_elim, arith, length-append, []}
use Rattle.std.specs.Prelude.{IsSome, unwrap_or, Result, Ok, Err, IfOk, IfErr, MatchResult}
use Rattle.std.specs.List.{AllByRecursion, flat_map}
use Rattle.std.specs.FinMap.{get, entries, get-entries, same_entries_map}
use Rattle.hex.specs.Hex.{encode_lower}
use Rattle.vc_object.specs.Tree.{mode_text}
use Rattle.vc_files.specs.declared.faults.Fault.TheVariants.{Memory}
use Rattle.vc_object_map.specs.declared.faults.StoreFault.TheVariants.{Fault}
use Rattle.vc_index.specs.IndexMap.{IndexMap, IsIndex}
use Rattle.vc_index.specs.IndexText.{entry_text, index_text, entry_at, MayFollow, TextFault, IsOfRead}
use Rattle.vc_index.specs.declared.entry.IndexEntry.{IndexEntry}
use Rattle.vc_index.specs.declared.faults.IndexFault.{IndexFault}
use Rattle.vc_index.specs.declared.faults.IndexFault.TheVariants.{BadPath, PathConflict, BadIndex, WrongEntry, Missing, Store}
use Rattle.vc_index.proofs.EntriesLemmas.{mid_before, get_mid, get_front, all_from_get}
use Rattle.vc_index.proofs.ReadLemmas.{spelt}
use Rattle.vc_index.proofs.FrontLemmas.{value_of}
use Rattle.vc_index.proofs.TextLemmas.{IsSpelt, entry_again}
use Rattle.vc_lemmas.proofs.Lists.{some_of}

abbrev Pair : Type 0
Pair = List ℕ × IndexEntry

abbrev text : List Pair → List ℕ
text es = flat_map (λ (e : Pair). entry_text e.0 e.1) es

abbrev Spelt : List Pair → Type 0
Spelt es = AllByRecursion (λ (e : Pair). IsSpelt e.0 e.1) es

pub all_spelt : (m : IndexMap) → IsIndex m → Spelt (entries m)
all_spelt m sound = all_from_get (λ (e : Pair). IsSpelt e.0 e.1) m (λ q v found. spelt q v (sound.file q v found))

same_first : (e g : Pair) (r s : List ℕ) → IsSpelt e.0 e.1 → IsSpelt g.0 g.1 → entry_text e.0 e.1 ++ r ≡ entry_text g.0 g.1 ++ s → (e ≡ g) × (r ≡ s)
same_first e g r s a b is =
    let both : ◌≡◌ {A = Option (List ℕ × IndexEntry × List ℕ)} (Some (e.0, e.1, r)) (Some (g.0, g.1, s)) = sym (entry_again e.0 e.1 r a) ∙ ap entry_at is ∙ entry_again g.0 g.1 s b in
    let parts : ◌≡◌ {A = List ℕ × IndexEntry × List ℕ} (e.0, e.1, r) (g.0, g.1, s) = ap (λ o. unwrap_or {T = List ℕ × IndexEntry × List ℕ} o (e.0, e.1, r)) both in
    (ap (λ (p : List ℕ × IndexEntry × List ℕ). let q : Pair = (p.0, p.1) in q) parts, ap (λ (p : List ℕ × IndexEntry × List ℕ). p.2) parts)

-- of two lists of entries before bytes, one begins the other
meet : (es gs : List Pair) (r s : List ℕ) → Spelt es → Spelt gs → text es ++ r ≡ text gs ++ s → ((hs : List Pair) × (gs ≡ es ++ hs) × (r ≡ text hs ++ s)) ⊎ ((hs : List Pair) × (es ≡ gs ++ hs) × (s ≡ text hs ++ r))
meet [] gs r s a b e = inl (gs, refl, e)
meet (x ∷ es) [] r s a b e = inr (x ∷ es, refl, sym e)
meet (x ∷ es) (g ∷ gs) r s a b e =
    let first = same_first x g (text es ++ r) (text gs ++ s) a.0 b.0 (sym (append_assoc (entry_text x.0 x.1) (text es) r) ∙ e ∙ append_assoc (entry_text g.0 g.1) (text gs) s) in
    ⊎_elim
    (λ h. inl (h.0, (λ i. sym first.0 i ∷ h.1 i), h.2))
    (λ h. inr (h.0, (λ i. first.0 i ∷ h.1 i), h.2))
    (meet es gs r s a.1 b.1 first.1)

-- an entry of an index may follow those in front of it
next_may_follow : (m n : IndexMap) (hs : List Pair) (k : List ℕ) (v : IndexEntry) → IsIndex m → entries m ≡ entries n ++ (k, v) ∷ hs → MayFollow n k v
next_may_follow m n hs k v sound is = record {
  file = sound.file k v at;
  last = mid_before m (entries n) hs k v is;
  free = λ (other, some, way).
      let found = value_of (get n other) some in
      let there : IsSome (get m other) = some_of (get m other) found.0 (get_front m (entries n) hs k v is other found.0 (sym (get-entries n other) ∙ found.1)) in
      ⊎_elim (λ above. sound.apart other k there (some_of (get m k) v at) above) (λ below. sound.apart k other (some_of (get m k) v at) there below) way;
}
  where
    at : get m k ≡ Some v
    at = get_mid m (entries n) hs k v is

no_more : (m : IndexMap) (n : IndexMap) (hs : List Pair) (r s : List ℕ) → IsIndex m → entries m ≡ entries n ++ hs → r ≡ text hs ++ s → ((path : List ℕ) (entry : IndexEntry) (more : List ℕ) → MayFollow n path entry → r ≢ entry_text path entry ++ more) → hs ≡ []
no_more m n [] r s sound is rest none = refl
no_more m n (h ∷ hs) r s sound is rest none = absurd (none h.0 h.1 (text hs ++ s) (next_may_follow m n hs h.0 h.1 sound is) (rest ∙ append_assoc (entry_text h.0 h.1) (text hs) s))

no_entry : (h : Pair) (r : List ℕ) → [] ≡ entry_text h.0 h.1 ++ r → ⊥
no_entry h r e = absurd (omega (arith, ap length e, length-append (entry_text h.0 h.1) r, length-append (mode_text h.1.mode ++ (32 ∷ []) ++ encode_lower h.1.id.0 ++ (32 ∷ 48 ∷ 9 ∷ []) ++ h.0) (0 ∷ [])))

no_text : (hs : List Pair) (s : List ℕ) → [] ≡ text hs ++ s → hs ≡ []
no_text [] s e = refl
no_text (h ∷ hs) s e = absurd (no_entry h (text hs ++ s) (e ∙ append_assoc (entry_text h.0 h.1) (text hs) s))

-- two indexes of one text are one
pub one_index : (m n : IndexMap) → IsIndex m → IsIndex n → index_text m ≡ index_text n → m ≡ n
one_index m n a b e = same_entries_map m n (⊎_elim
    (λ h. sym (h.1 ∙ ap (λ hs. entries m ++ hs) (no_text h.0 [] h.2) ∙ append-nil (entries m)))
    (λ h. h.1 ∙ ap (λ hs. entries n ++ hs) (no_text h.0 [] h.2) ∙ append-nil (entries n))
    (meet (entries m) (entries n) [] [] (all_spelt m a) (all_spelt n b) (append-nil (index_text m) ∙ e ∙ sym (append-nil (index_text n)))))

-- a text of an index has no place of fault
pub no_text_fault : (m : IndexMap) (bytes : List ℕ) (place : ℕ) → IsIndex m → bytes ≡ index_text m → TextFault bytes place → ⊥
no_text_fault m bytes place sound is f = ⊎_elim
    (λ h. f.some (h.2 ∙ ap (λ hs. text hs ++ []) (no_more m f.before h.0 f.rest [] sound h.1 h.2 f.none)))
    (λ h. f.some (ends (text h.0) f.rest h.2))
    (meet (entries f.before) (entries m) f.rest [] (all_spelt f.before f.sound) (all_spelt m sound) (sym f.is ∙ is ∙ sym (append-nil (index_text m))))
  where
    ends : (xs ys : List ℕ) → [] ≡ xs ++ ys → ys ≡ []
    ends [] ys e = sym e
    ends (x ∷ xs) ys e = absurd (cc e)

-- bytes have one place of fault
pub one_place : (bytes : List ℕ) (p q : ℕ) → TextFault bytes p → TextFault bytes q → p ≡ q
one_place bytes p q f g =
    let same : entries f.before ≡ entries g.before = ⊎_elim
    (λ h. sym (h.1 ∙ ap (λ hs. entries f.before ++ hs) (no_more g.before f.before h.0 f.rest g.rest g.sound h.1 h.2 f.none) ∙ append-nil (entries f.before)))
    (λ h. h.1 ∙ ap (λ hs. entries g.before ++ hs) (no_more f.before g.before h.0 g.rest f.rest f.sound h.1 h.2 g.none) ∙ append-nil (entries g.before))
    (meet (entries f.before) (entries g.before) f.rest g.rest (all_spelt f.before f.sound) (all_spelt g.before g.sound) (sym f.is ∙ g.is)) in
    f.at ∙ ap (λ es. length (text es)) same ∙ sym g.at

-- ---- for whom reads
pub read_again : (bytes : List ℕ) (r : Result IndexMap IndexFault) → IfOk r (λ index. bytes ≡ index_text index) → IfOk r IsIndex → IfErr r (IsOfRead bytes)
    → (m : IndexMap) → IsIndex m → bytes ≡ index_text m → MatchResult r (λ index. index ≡ m) (λ e. e ≡ Store (Fault Memory))
read_again bytes (Ok index) is sound err m other text = one_index index m sound other (sym is ∙ text)
read_again bytes (Err BadPath) is sound err m other text = absurd err
read_again bytes (Err PathConflict) is sound err m other text = absurd err
read_again bytes (Err (BadIndex place)) is sound err m other text = absurd (no_text_fault m bytes place other text err)
read_again bytes (Err (WrongEntry at)) is sound err m other text = absurd err
read_again bytes (Err (Missing id)) is sound err m other text = absurd err
read_again bytes (Err (Store fault)) is sound err m other text = ap (λ f. Store f) err

pub read_only : (bytes : List ℕ) (r : Result IndexMap IndexFault) → IfOk r (λ index. bytes ≡ index_text index) → IfOk r IsIndex → IfErr r (IsOfRead bytes)
    → (place : ℕ) → TextFault bytes place → MatchResult r (λ _. ⊥) (λ e. (e ≡ BadIndex place) ⊎ (e ≡ Store (Fault Memory)))
read_only bytes (Ok index) is sound err place fault = no_text_fault index bytes place sound is fault
read_only bytes (Err BadPath) is sound err place fault = absurd err
read_only bytes (Err PathConflict) is sound err place fault = absurd err
read_only bytes (Err (BadIndex p)) is sound err place fault = inl (ap (λ n. BadIndex n) (one_place bytes p place err fault))
read_only bytes (Err (WrongEntry at)) is sound err place fault = absurd err
read_only bytes (Err (Missing id)) is sound err place fault = absurd err
read_only bytes (Err (Store fault')) is sound err place fault = inr (ap (λ f. Store f) err)
