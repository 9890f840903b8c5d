-- How advertisements are written, and that they are spelled so.
use Rattle.std.proofs.Common.{◌≡◌, ◌≢◌, ℕ, zero, suc, ◌≤◌, Bool, true, false, cond, T, List, ◌∷◌, ◌++◌, length, get_or, Option, Some, None, Result, Ok, Err, refl, ap, sym, ◌∙◌, subst, arith, append_assoc, length-append, []}
use Rattle.std.specs.Prelude.{codes, replicate, OnOk}
use Rattle.std.specs.FinMap.{find, is_sorted, entries, entries_sorted, from_entries, get-entries, get-from_entries, get-retain_keys, retain_keys}
use Rattle.std.specs.FinMap.Entries.{below_all}
use Rattle.std.specs.List.{AllByRecursion, IsDistinct, flat_map}
use Rattle.std.specs.Map.{keys_of}
use Rattle.std.specs.Ordering.{is_eq, is_lt, eq_by_cmp}
use Rattle.std.specs.Str.{bytes_eq}
use Rattle.std.specs.declared.cmp.Ordering.{Ordering}
use Rattle.std.specs.declared.cmp.Ordering.TheVariants.{Less, Equal, Greater}
use Rattle.std.proofs.lemmas.List.{append-nil}
use Rattle.std.proofs.lemmas.Map.Keys.{IsDistinct-cons}
use Rattle.hex.specs.Hex.{decode_sized, encode_lower, lower_digits}
use Rattle.hex.proofs.HexLemmas.{length-encode_with, decode_sized-encode_lower}
use Rattle.vc_object.specs.Lines.{IsId}
use Rattle.vc_object.specs.declared.id.ObjectId.{ObjectId}
use Rattle.vc_pkt.specs.Line.{flush, spelling, IsWritable}
use Rattle.vc_pkt.specs.Message.{IsSpelledBy}
use Rattle.vc_pkt.proofs.TextLaws.{with_lf}
use Rattle.vc_pkt.proofs.Written.{lines_written}
use Rattle.vc_fetch.specs.Advert.{RefIds, Ref, AdvertText, IsName, IsRefLine, IsFirstRefLine, IsCapabilities, AreRefLines, SpellsAdvert, IsHeadId, IsWrittenRef, IsWrittenAdvert, is_ref, ref_text, written_ref, ref_lines, with_head, or_no_refs, capabilities, advert_lines}
use Rattle.vc_fetch.proofs.Adverts.{IsDistinct-none}
use Rattle.vc_fetch.proofs.RefMaps.{by_bytes, total, tied_same, same_name, same_ids, is_eq-same}
use Rattle.vc_lemmas.proofs.Texts.{bytes_eq_other}
use Rattle.vc_lemmas.proofs.Lists.{both_parts}

-- the line that names no ref
pub none_written : {E : Type 0} (r : Result (Unit {0}) E) (tail : List ℕ) (refs : List Ref) (old new : List ℕ) → refs ≡ [] → OnOk r (new ≡ old ++ spelling (written_ref tail (codes "capabilities^{}", record { 0 = replicate 20 0 })))
    → OnOk r (new ≡ old ++ flat_map spelling (ref_lines tail (or_no_refs refs)))
none_written (Ok x) tail refs old new none is =
    is ∙ ap (λ t. old ++ t) (sym (append-nil (spelling (written_ref tail (codes "capabilities^{}", record { 0 = replicate 20 0 })))))
    ∙ ap (λ t. old ++ flat_map spelling (ref_lines tail (or_no_refs t))) (sym none)
none_written (Err e) tail refs old new none is = tt

some_kept : (refs : List Ref) → (refs ≡ [] → ⊥) → refs ≡ or_no_refs refs
some_kept [] some = absurd (some refl)
some_kept (ref ∷ refs) some = refl

-- the lines of refs, of which there are some
pub some_written : {E : Type 0} (r : Result (Unit {0}) E) (tail : List ℕ) (refs : List Ref) (old new : List ℕ) → (refs ≡ [] → ⊥) → OnOk r (new ≡ old ++ flat_map spelling (ref_lines tail refs))
    → OnOk r (new ≡ old ++ flat_map spelling (ref_lines tail (or_no_refs refs)))
some_written (Ok x) tail refs old new some is = is ∙ ap (λ t. old ++ flat_map spelling (ref_lines tail t)) (some_kept refs some)
some_written (Err e) tail refs old new some is = tt

-- ---- lines that are read again
-- a ref whose line is written, be it a ref's or another name's
record IsPlain (ref : Ref) : Type 0 where
  name : IsName ref.0
  id : IsId ref.1
  short : length ref.0 ≤ 65450

line_fits : (tail : List ℕ) (ref : Ref) → length tail ≤ 24 → IsPlain ref → IsWritable (written_ref tail ref)
line_fits tail ref few h =
    let a = length-append (ref_text ref ++ tail) (10 ∷ []) in
    let b = length-append (ref_text ref) tail in
    let c = length-append (encode_lower ref.1.0) (32 ∷ ref.0) in
    let d = length-encode_with lower_digits ref.1.0 in
    let e = h.id.sized in
    let f = h.short in
    (omega arith, omega arith)

lines_fit : (tail : List ℕ) (refs : List Ref) → length tail ≤ 24 → AllByRecursion IsPlain refs → AllByRecursion IsWritable (ref_lines tail refs ++ flush ∷ [])
lines_fit tail [] few all = (tt, tt)
lines_fit tail (ref ∷ refs) few all = (line_fits tail ref few all.0, lines_fit [] refs (omega arith) all.1)

written_digits : (ref : Ref) → IsPlain ref → decode_sized (encode_lower ref.1.0) 20 ≡ Ok ref.1.0
written_digits ref h = decode_sized-encode_lower ref.1.0 20 h.id.sized h.id.bytes

ref_spells : (ref : Ref) → IsPlain ref → IsRefLine ref ((ref_text ref ++ []) ++ 10 ∷ [])
ref_spells ref h = record { digits = encode_lower ref.1.0; writes = written_digits ref h; name = h.name; spelled = with_lf (ref_text ref ++ []) ∙ append-nil (ref_text ref) }

first_spells : (tail : List ℕ) (ref : Ref) → IsCapabilities tail → IsPlain ref → IsFirstRefLine ref ((ref_text ref ++ tail) ++ 10 ∷ [])
first_spells tail ref passed h = record {
  digits = encode_lower ref.1.0;
  tail = tail;
  writes = written_digits ref h;
  name = h.name;
  passed = passed;
  spelled = with_lf (ref_text ref ++ tail) ∙ append_assoc (encode_lower ref.1.0) (32 ∷ ref.0) tail;
}

refs_spell : (refs : List Ref) → AllByRecursion IsPlain refs → AreRefLines refs (ref_lines [] refs)
refs_spell [] all = refl
refs_spell (ref ∷ refs) all = (ref_spells ref all.0, refs_spell refs all.1)

-- ---- names, each once
less_of : (o : Ordering) → T (is_lt o) → is_eq o ≡ false
less_of Less h = refl
less_of Equal h = absurd h
less_of Greater h = absurd h

below_differ : (name : List ℕ) (refs : List Ref) → T (below_all by_bytes name refs) → AllByRecursion (λ q. bytes_eq name q ≡ false) (keys_of refs)
below_differ name [] h = tt
below_differ name (ref ∷ refs) h =
    let parts = both_parts (is_lt (by_bytes name ref.0)) (below_all by_bytes name refs) h in
    let other : name ≢ ref.0 = λ e. let s = ap (λ t. is_eq (by_bytes name t)) e in let i = is_eq-same name in let l = less_of (by_bytes name ref.0) parts.0 in cc (s, i, l) in
    (bytes_eq_other name ref.0 other, below_differ name refs parts.1)

sorted_once : (refs : List Ref) → T (is_sorted by_bytes refs) → IsDistinct bytes_eq (keys_of refs)
sorted_once [] h = IsDistinct-none
sorted_once (ref ∷ refs) h =
    let parts = both_parts (below_all by_bytes ref.0 refs) (is_sorted by_bytes refs) h in
    IsDistinct-cons bytes_eq ref.0 (keys_of refs) (below_differ ref.0 refs parts.0) (sorted_once refs parts.1)

abbrev AreRefs : List Ref → Type 0
AreRefs refs = AllByRecursion (λ (r : Ref). is_ref r.0 ≡ true) refs

no_ref : (name : List ℕ) (refs : List Ref) → is_ref name ≡ false → AreRefs refs → AllByRecursion (λ q. bytes_eq name q ≡ false) (keys_of refs)
no_ref name [] other all = tt
no_ref name (ref ∷ refs) other all = (bytes_eq_other name ref.0 (λ e. let s = ap is_ref e in let i = all.0 in cc (s, i, other)), no_ref name refs other all.1)

-- ---- what is found of the names that are written
find_none : (name : List ℕ) (refs : List Ref) → is_ref name ≡ false → AreRefs refs → find by_bytes name refs ≡ None
find_none name [] other all = refl
find_none name (ref ∷ refs) other all = by (eq_by_cmp by_bytes name ref.0) refl (find_none name refs other all.1)
  where
    by : (b : Bool) → eq_by_cmp by_bytes name ref.0 ≡ b → find by_bytes name refs ≡ None → cond b (Some ref.1) (find by_bytes name refs) ≡ None
    by true e rest = absurd (let s = ap is_ref (same_name name ref.0 e) in let i = all.0 in cc (s, i, other))
    by false e rest = rest

-- a name that is no ref's is not looked for
find_kept : (q : List ℕ) (refs : List Ref) → AreRefs refs → cond (is_ref q) (find by_bytes q refs) None ≡ find by_bytes q refs
find_kept q refs all = by (is_ref q) refl
  where
    by : (b : Bool) → is_ref q ≡ b → cond b (find by_bytes q refs) None ≡ find by_bytes q refs
    by true e = refl
    by false e = sym (find_none q refs e all)

find_behind : (q : List ℕ) (ref : Ref) (refs : List Ref) → is_ref ref.0 ≡ false → cond (is_ref q) (find by_bytes q (ref ∷ refs)) None ≡ cond (is_ref q) (find by_bytes q refs) None
find_behind q ref refs other = by (is_ref q) (eq_by_cmp by_bytes q ref.0) refl refl
  where
    by : (b t : Bool) → is_ref q ≡ b → eq_by_cmp by_bytes q ref.0 ≡ t → cond b (cond t (Some ref.1) (find by_bytes q refs)) None ≡ cond b (find by_bytes q refs) None
    by true true e f = absurd (let s = ap is_ref (same_name q ref.0 f) in cc (s, e, other))
    by true false e f = refl
    by false t e f = refl

abbrev Found : RefIds → List Ref → Type 0
Found refs listed = (q : List ℕ) → cond (is_ref q) (find by_bytes q listed) None ≡ find by_bytes q (entries refs)

refs_again : (refs : RefIds) (listed : List Ref) → Found refs listed → refs ≡ retain_keys (from_entries {R = by_bytes} listed) is_ref
refs_again refs listed found = same_ids _ _
    (λ q.
    get-entries refs q ∙ sym (found q)
    ∙ ap (λ o. cond (is_ref q) o None) (sym (get-from_entries total listed q))
    ∙ sym (get-retain_keys (from_entries listed) is_ref q (λ x t. ap is_ref (sym (tied_same q x t)))))

abbrev head_name : List ℕ
head_name = codes "HEAD"

abbrev none_name : List ℕ
none_name = codes "capabilities^{}"

abbrev zeros : ObjectId
zeros = record { 0 = replicate 20 0 }

-- what holds of the refs that are written
record Writes (head : Option ObjectId) (refs : RefIds) (listed : List Ref) : Type 0 where
  plain : AllByRecursion IsPlain listed
  once : IsDistinct bytes_eq (keys_of listed)
  head_is : find by_bytes head_name listed ≡ head
  found : Found refs listed

pub zeros_at : (n i : ℕ) → ◌≡◌ {A = ℕ} (get_or (replicate n 0) i 0) 0
zeros_at zero i = refl
zeros_at (suc n) zero = refl
zeros_at (suc n) (suc i) = zeros_at n i

zeros_id : IsId zeros
zeros_id = record { sized = refl; bytes = λ i. let z = zeros_at 20 i in omega arith }

plain_refs : (refs : List Ref) → AllByRecursion IsWrittenRef refs → AllByRecursion IsPlain refs
plain_refs [] all = tt
plain_refs (ref ∷ refs) all = let h = all.0 in (record { name = h.name; id = h.id; short = h.short }, plain_refs refs all.1)

are_refs : (refs : List Ref) → AllByRecursion IsWrittenRef refs → AreRefs refs
are_refs [] all = tt
are_refs (ref ∷ refs) all = let h = all.0 in (h.counts, are_refs refs all.1)

writes_none : (refs : RefIds) (es : List Ref) → entries refs ≡ es → AllByRecursion IsWrittenRef es → Writes None refs (or_no_refs es)
writes_none refs [] is all = record {
  plain = (record { name = record { some = λ e. cc e; plain = refl }; id = zeros_id; short = omega arith }, tt);
  once = IsDistinct-cons bytes_eq none_name [] tt IsDistinct-none;
  head_is = refl;
  found = λ q. find_behind q (none_name, zeros) [] refl ∙ find_kept q [] tt ∙ ap (find by_bytes q) (sym is);
}
writes_none refs (r ∷ rs) is all = record {
  plain = plain_refs (r ∷ rs) all;
  once = sorted_once (r ∷ rs) (subst (λ es. T (is_sorted by_bytes es)) is (entries_sorted refs));
  head_is = find_none head_name (r ∷ rs) refl (are_refs (r ∷ rs) all);
  found = λ q. find_kept q (r ∷ rs) (are_refs (r ∷ rs) all) ∙ ap (find by_bytes q) (sym is);
}

writes_head : (id : ObjectId) (refs : RefIds) (es : List Ref) → entries refs ≡ es → IsId id → AllByRecursion IsWrittenRef es → Writes (Some id) refs ((head_name, id) ∷ es)
writes_head id refs es is h all = record {
  plain = (record { name = record { some = λ e. cc e; plain = refl }; id = h; short = omega arith }, plain_refs es all);
  once = IsDistinct-cons bytes_eq head_name (keys_of es) (no_ref head_name es refl (are_refs es all)) (sorted_once es (subst (λ t. T (is_sorted by_bytes t)) is (entries_sorted refs)));
  head_is = refl;
  found = λ q. find_behind q (head_name, id) es refl ∙ find_kept q es (are_refs es all) ∙ ap (find by_bytes q) (sym is);
}

writes : (head : Option ObjectId) (refs : RefIds) → IsHeadId head → AllByRecursion IsWrittenRef (entries refs) → Writes head refs (or_no_refs (with_head head (entries refs)))
writes None refs h all = writes_none refs (entries refs) refl all
writes (Some id) refs h all = writes_head id refs (entries refs) refl h all

spells : (head : Option ObjectId) (refs : RefIds) (tail : List ℕ) (listed : List Ref) → IsCapabilities tail → listed ≢ [] → Writes head refs listed → SpellsAdvert (record { head = head; refs = refs }) (ref_lines tail listed ++ flush ∷ [])
spells head refs tail [] passed some w = absurd (some refl)
spells head refs tail (ref ∷ others) passed some w = record {
  ref = ref;
  refs = others;
  first = (ref_text ref ++ tail) ++ 10 ∷ [];
  others = ref_lines [] others;
  begins = first_spells tail ref passed w.plain.0;
  each = refs_spell others w.plain.1;
  once = w.once;
  is =
      let head_is = sym (get-from_entries total (ref ∷ others) head_name ∙ w.head_is) in
      let refs_is = refs_again refs (ref ∷ others) w.found in
      λ i. record { head = head_is i; refs = refs_is i };
  whole = refl;
}

some_listed : (refs : List Ref) → or_no_refs refs ≢ []
some_listed [] e = cc e
some_listed (r ∷ rs) e = cc e

pub written_advert : (advert : AdvertText) → IsWrittenAdvert advert → IsSpelledBy SpellsAdvert advert (flat_map spelling (advert_lines advert))
written_advert advert w =
    let listed = or_no_refs (with_head advert.head (entries advert.refs)) in
    let all = writes advert.head advert.refs w.head w.refs in
    (advert_lines advert, lines_written (advert_lines advert) (lines_fit capabilities listed (omega arith) all.plain), spells advert.head advert.refs capabilities listed refl (some_listed (with_head advert.head (entries advert.refs))) all)
