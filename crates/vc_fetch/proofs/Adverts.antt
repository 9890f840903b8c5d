-- What the lines of an advertisement give is what they spell.
use Rattle.std.proofs.Common.{◌≡◌, ◌≢◌, ℕ, ◌+◌, ◌==◌, Bool, true, false, cond, List, ◌∷◌, ◌++◌, Option, Some, None, Result, Ok, Err, refl, ap, sym, ◌∙◌, append_assoc, arith, []}
use Rattle.std.specs.Prelude.{is_some}
use Rattle.std.specs.FinMap.{find, contains_key, insert, empty, get-from_entries, from_entries, from_entries_push, slice_cmp-IsAntisymmetric, nat_cmp-IsAntisymmetric}
use Rattle.std.specs.FinMap.Entries.{find-append}
use Rattle.std.specs.List.{AllByRecursion, IsDistinct}
use Rattle.std.specs.Map.{keys_of}
use Rattle.std.specs.Str.{bytes_eq}
use Rattle.std.specs.Ordering.{eq_by_cmp}
use Rattle.std.proofs.lemmas.Bool.Decides.{nat_tests}
use Rattle.std.proofs.lemmas.List.{append-nil}
use Rattle.std.proofs.lemmas.Map.Keys.{IsDistinct-head, IsDistinct-tail, IsDistinct-cons}
use Rattle.std.proofs.lemmas.Slice.Eq.{bytes_eq-Decides}
use Rattle.vc_object.specs.declared.id.ObjectId.{ObjectId}
use Rattle.vc_pkt.specs.Line.{LineText, flush, text}
use Rattle.vc_pkt.specs.Message.{Stepped, onward, complete, going, run, GivenBy}
use Rattle.vc_pkt.specs.declared.fault.PktFault.{PktFault}
use Rattle.vc_pkt.specs.declared.fault.PktFault.TheVariants.{BadRecord}
use Rattle.vc_pkt.proofs.StreamLaws.{ok_same}
use Rattle.vc_fetch.specs.Advert.{RefIds, Ref, AdvertText, AreRefLines, SpellsAdvert, advert_of, ref_line, one_more_ref, advert_step}
use Rattle.vc_fetch.proofs.RefLines.{ref_some, ref_again, first_ref_some, first_ref_again}
use Rattle.vc_fetch.proofs.RefMaps.{by_bytes, total, same_name, is_eq-same}
use Rattle.vc_lemmas.proofs.Texts.{bytes_eq_other}
use Rattle.vc_lemmas.proofs.Lists.{none_parts}

abbrev ids_of : List Ref → RefIds
ids_of refs = from_entries refs

abbrev Next : Type 0
Next = RefIds → Result AdvertText PktFault

abbrev Step : Type 0
Step = Result (Stepped RefIds AdvertText) PktFault

-- ---- names that differ
differ : (a b : List ℕ) → bytes_eq a b ≡ false → a ≢ b
differ a b e h = cc (e, (bytes_eq-Decides a b).1 h)

apart : (a b : List ℕ) → a ≢ b → eq_by_cmp by_bytes a b ≡ false
apart a b n = by (eq_by_cmp by_bytes a b) refl
  where
    by : (t : Bool) → eq_by_cmp by_bytes a b ≡ t → t ≡ false
    by true e = absurd (n (same_name a b e))
    by false e = refl

-- ---- the refs before, and those that follow
-- none of the names was listed before
abbrev AreNew : List Ref → List Ref → Type 0
AreNew before refs = AllByRecursion (λ (r : Ref). find by_bytes r.0 before ≡ None) refs

abbrev one_more : List Ref → Ref → List Ref
one_more before ref = before ++ ref ∷ []

-- a name that is new after one more ref was new before it, and isn't that ref's
earlier : (before : List Ref) (ref : Ref) (refs : List Ref) → find by_bytes ref.0 before ≡ None → AreNew (one_more before ref) refs
    → AreNew before refs × AllByRecursion (λ q. bytes_eq ref.0 q ≡ false) (keys_of refs)
earlier before ref [] new later = (tt, tt)
earlier before ref (r ∷ refs) new later =
    let e = none_parts (eq_by_cmp by_bytes r.0 ref.0) ref.1 (find by_bytes r.0 before) (sym (find-append by_bytes total before ref.0 ref.1 r.0 new) ∙ later.0) in
    let rest = earlier before ref refs new later.1 in
    let other : ref.0 ≢ r.0 = λ h. let s = ap (λ t. eq_by_cmp by_bytes t ref.0) h in let i = is_eq-same ref.0 in let f = e.0 in cc (s, i, f) in
    ((e.1, rest.0), (bytes_eq_other ref.0 r.0 other, rest.1))

-- and back
later : (before : List Ref) (ref : Ref) (refs : List Ref) → find by_bytes ref.0 before ≡ None → AreNew before refs → AllByRecursion (λ q. bytes_eq ref.0 q ≡ false) (keys_of refs) → AreNew (one_more before ref) refs
later before ref [] new each others = tt
later before ref (r ∷ refs) new each others =
    let other : r.0 ≢ ref.0 = λ h. differ ref.0 r.0 others.0 (sym h) in (
      find-append by_bytes total before ref.0 ref.1 r.0 new ∙ ap (λ b. cond b (Some ref.1) (find by_bytes r.0 before)) (apart r.0 ref.0 other) ∙ each.0,
      later before ref refs new each.1 others.1,
    )

all_new : (refs : List Ref) → AreNew [] refs
all_new [] = tt
all_new (r ∷ refs) = (refl, all_new refs)

-- one more ref of a new name
listed : (before : List Ref) (ref : Ref) → find by_bytes ref.0 before ≡ None → insert (ids_of before) ref.0 ref.1 ≡ from_entries (one_more before ref)
listed before ref new = sym (from_entries_push total (slice_cmp-IsAntisymmetric nat_cmp-IsAntisymmetric) before ref.0 ref.1 new)

contains : (before : List Ref) (name : List ℕ) → contains_key (ids_of before) name ≡ is_some (find by_bytes name before)
contains before name = ap is_some (get-from_entries total before name)

abbrev new_or : ℕ → List Ref → Ref → Bool → Step
new_or n before ref b = cond b (Err (BadRecord n)) (Ok (onward (insert (ids_of before) ref.0 ref.1)))

none_of : (o : Option ObjectId) → is_some o ≡ false → o ≡ None
none_of None e = refl
none_of (Some v) e = absurd (cc e)

-- a line that added a ref
new_ok : (m : ℕ) (before : List Ref) (ref : Ref) (k : Next) (rest : List LineText) (n : ℕ) (a : AdvertText) (b : Bool) → contains_key (ids_of before) ref.0 ≡ b → going (new_or m before ref b) k rest n ≡ Ok a
    → (find by_bytes ref.0 before ≡ None) × (k (ids_of (one_more before ref)) ≡ Ok a)
new_ok m before ref k rest n a true is e = absurd (cc e)
new_ok m before ref k rest n a false is e =
    let new = none_of (find by_bytes ref.0 before) (sym (contains before ref.0) ∙ is) in (new, ap k (sym (listed before ref new)) ∙ e)

more_ok : (m : ℕ) (before : List Ref) (o : Option Ref) (k : Next) (rest : List LineText) (n : ℕ) (a : AdvertText) → going (one_more_ref m (ids_of before) o) k rest n ≡ Ok a
    → (ref : Ref) × (o ≡ Some ref) × (find by_bytes ref.0 before ≡ None) × (k (ids_of (one_more before ref)) ≡ Ok a)
more_ok m before None k rest n a e = absurd (cc e)
more_ok m before (Some ref) k rest n a e = let r = new_ok m before ref k rest n a (contains_key (ids_of before) ref.0) refl e in (ref, refl, r.0, r.1)

more_new : (m : ℕ) (before : List Ref) (ref : Ref) (k : Next) (rest : List LineText) (n : ℕ) → find by_bytes ref.0 before ≡ None
    → going (one_more_ref m (ids_of before) (Some ref)) k rest n ≡ k (ids_of (one_more before ref))
more_new m before ref k rest n new =
    ap (λ b. going (new_or m before ref b) k rest n) (contains before ref.0 ∙ ap is_some new) ∙ ap k (listed before ref new)

-- ---- the lines after the first
record Refs (before : List Ref) (lines : List LineText) (a : AdvertText) : Type 0 where
  refs : List Ref
  others : List LineText
  each : AreRefLines refs others
  new : AreNew before refs
  once : IsDistinct bytes_eq (keys_of refs)
  whole : lines ≡ others ++ flush ∷ []
  is : a ≡ advert_of (ids_of (before ++ refs))

pub IsDistinct-none : IsDistinct bytes_eq []
unfolding IsDistinct
IsDistinct-none = tt

no_more : (before : List Ref) (k : Next) (rest : List LineText) (n : ℕ) (a : AdvertText) → going (Ok (complete (advert_of (ids_of before)))) k rest n ≡ Ok a → (rest ≡ []) × (a ≡ advert_of (ids_of before))
no_more before k [] n a e = (refl, sym (ok_same _ a e))
no_more before k (l ∷ ls) n a e = absurd (cc e)

abbrev end_or : ℕ → List Ref → Bool → Step
end_or m before b = cond b (Err (BadRecord m)) (Ok (complete (advert_of (ids_of before))))

not_zero : (m : ℕ) → (m + 1 == 0) ≡ false
not_zero m = grind (arith, nat_tests)

refs_of : (lines : List LineText) (m : ℕ) (before : List Ref) (a : AdvertText) → (m == 0) ≡ false → run advert_step m (ids_of before) lines ≡ Ok a → Refs before lines a
refs_of [] m before a behind e = absurd (cc e)
refs_of (flush ∷ rest) m before a behind e =
    let k : Next = λ t. run advert_step (m + 1) t rest in
    let d = no_more before k rest (m + 1) a (ap (λ b. going (end_or m before b) k rest (m + 1)) (sym behind) ∙ e) in
    record {
      refs = [];
      others = [];
      each = refl;
      new = tt;
      once = IsDistinct-none;
      whole = ap (λ t. flush ∷ t) d.0;
      is = d.1 ∙ ap (λ es. advert_of (ids_of es)) (sym (append-nil before));
    }
refs_of (text line ∷ rest) m before a behind e =
    let k : Next = λ t. run advert_step (m + 1) t rest in
    let r = more_ok m before (ref_line false line) k rest (m + 1) a (ap (λ b. going (one_more_ref m (ids_of before) (ref_line b line)) k rest (m + 1)) (sym behind) ∙ e) in
    let t = refs_of rest (m + 1) (one_more before r.0) a (not_zero m) r.3 in
    let s = earlier before r.0 t.refs r.2 t.new in
    record {
      refs = r.0 ∷ t.refs;
      others = text line ∷ t.others;
      each = (ref_some line r.0 r.1, t.each);
      new = (r.2, s.0);
      once = IsDistinct-cons bytes_eq r.0.0 (keys_of t.refs) s.1 t.once;
      whole = ap (λ u. text line ∷ u) t.whole;
      is = t.is ∙ ap (λ es. advert_of (ids_of es)) (append_assoc before (r.0 ∷ []) t.refs);
    }

pub advert_spelled : (a : AdvertText) (lines : List LineText) → GivenBy advert_step empty a lines → SpellsAdvert a lines
advert_spelled a [] e = absurd (cc e)
advert_spelled a (flush ∷ rest) e = absurd (cc e)
advert_spelled a (text line ∷ rest) e =
    let r = more_ok 0 [] (ref_line true line) (λ t. run advert_step 1 t rest) rest 1 a e in
    let t = refs_of rest 1 (r.0 ∷ []) a refl r.3 in
    let s = earlier [] r.0 t.refs r.2 t.new in
    record {
      ref = r.0;
      refs = t.refs;
      first = line;
      others = t.others;
      begins = first_ref_some line r.0 r.1;
      each = t.each;
      once = IsDistinct-cons bytes_eq r.0.0 (keys_of t.refs) s.1 t.once;
      is = t.is;
      whole = ap (λ u. text line ∷ u) t.whole;
    }

-- ---- and the other way round
refs_run : (refs : List Ref) (others : List LineText) (m : ℕ) (before : List Ref) → (m == 0) ≡ false → AreRefLines refs others → AreNew before refs → IsDistinct bytes_eq (keys_of refs)
    → run advert_step m (ids_of before) (others ++ flush ∷ []) ≡ Ok (advert_of (ids_of (before ++ refs)))
refs_run [] others m before behind each new once =
    ap (λ t. run advert_step m (ids_of before) (t ++ flush ∷ [])) each
    ∙ ap (λ b. going (end_or m before b) (λ t. run advert_step (m + 1) t []) [] (m + 1)) behind
    ∙ ap (λ es. Ok (advert_of (ids_of es))) (sym (append-nil before))
refs_run (ref ∷ refs) [] m before behind each new once = absurd each
refs_run (ref ∷ refs) (flush ∷ others) m before behind each new once = absurd each
refs_run (ref ∷ refs) (text line ∷ others) m before behind (h, each) (n, new) once =
    let rest = others ++ flush ∷ [] in
    let k : Next = λ t. run advert_step (m + 1) t rest in
    ap (λ b. going (one_more_ref m (ids_of before) (ref_line b line)) k rest (m + 1)) behind
    ∙ ap (λ o. going (one_more_ref m (ids_of before) o) k rest (m + 1)) (ref_again line ref h)
    ∙ more_new m before ref k rest (m + 1) n
    ∙ refs_run refs others (m + 1) (one_more before ref) (not_zero m) each (later before ref refs n new (IsDistinct-head bytes_eq ref.0 (keys_of refs) once)) (IsDistinct-tail bytes_eq ref.0 (keys_of refs) once)
    ∙ ap (λ es. Ok (advert_of (ids_of es))) (append_assoc before (ref ∷ []) refs)

pub advert_given : (a : AdvertText) (lines : List LineText) → SpellsAdvert a lines → GivenBy advert_step empty a lines
advert_given a lines s =
    let rest = s.others ++ flush ∷ [] in
    let k : Next = λ t. run advert_step 1 t rest in
    ap (run advert_step 0 empty) s.whole
    ∙ ap (λ o. going (one_more_ref 0 empty o) k rest 1) (first_ref_again s.first s.ref s.begins)
    ∙ more_new 0 [] s.ref k rest 1 refl
    ∙ refs_run s.refs s.others 1 (s.ref ∷ []) refl s.each
    (later [] s.ref s.refs refl (all_new s.refs) (IsDistinct-head bytes_eq s.ref.0 (keys_of s.refs) s.once))
    (IsDistinct-tail bytes_eq s.ref.0 (keys_of s.refs) s.once)
    ∙ ap Ok (sym s.is)
