-- Lines of refs, as the functions that read them see them.
use Rattle.std.proofs.Common.{◌≡◌, ℕ, ◌==◌, ◌||◌, Bool, true, false, cond, not, List, ◌∷◌, ◌++◌, Option, Some, None, refl, ap, ◌∙◌, subst, arith, []}
use Rattle.std.specs.List.{list_any}
use Rattle.std.proofs.lemmas.Bool.{eq-eqb, or_parts}
use Rattle.std.proofs.lemmas.Bool.Decides.{nat_tests}
use Rattle.std.proofs.lemmas.Option.{same_Some}
use Rattle.hex.proofs.HexLemmas.{decode_sized-ok}
use Rattle.vc_object.specs.Bytes.{Without}
use Rattle.vc_object.specs.Items.{◌>>=◌}
use Rattle.vc_object.specs.Lines.{after_word, split}
use Rattle.vc_object.specs.declared.id.ObjectId.{ObjectId}
use Rattle.vc_object.proofs.Items.{bind_some}
use Rattle.vc_object.proofs.LineTexts.{after_word_some, after_word_again, split_some, split_again}
use Rattle.vc_object.proofs.Texts.{ne-eqb}
use Rattle.vc_pkt.specs.TextLine.{without_lf}
use Rattle.vc_fetch.specs.Ids.{WritesId, id_of}
use Rattle.vc_fetch.specs.Advert.{Ref, IsName, IsRefLine, IsCapabilities, IsFirstRefLine, is_break, is_name, before_nul, named_ref, ref_line}
use Rattle.vc_fetch.proofs.IdLines.{id_some, id_again}

-- ---- names
pub name_is : (name : List ℕ) → is_name name ≡ true → IsName name
name_is [] e = absurd (cc e)
name_is (b ∷ bs) e = record { some = λ h. cc h; plain = turned (list_any is_break (b ∷ bs)) e }
  where
    turned : (t : Bool) → not t ≡ true → t ≡ false
    turned true e = cc e
    turned false e = refl

pub name_again : (name : List ℕ) → IsName name → is_name name ≡ true
name_again [] h = absurd (h.some refl)
name_again (b ∷ bs) h = ap not h.plain

-- ---- what stands before a NUL
pub nul_at : (front more : List ℕ) → Without 0 front → before_nul (front ++ 0 ∷ more) ≡ front
nul_at [] more w = refl
nul_at (b ∷ front) more w = ap (λ t. cond t [] (b ∷ before_nul (front ++ 0 ∷ more))) (ne-eqb b 0 w.0) ∙ ap (λ t. b ∷ t) (nul_at front more w.1)

pub no_nul : (words : List ℕ) → Without 0 words → before_nul words ≡ words
no_nul [] w = refl
no_nul (b ∷ words) w = ap (λ t. cond t [] (b ∷ before_nul words)) (ne-eqb b 0 w.0) ∙ ap (λ t. b ∷ t) (no_nul words w.1)

-- what is cut off is nothing, or begins with a NUL
pub nul_cut : (words : List ℕ) → (tail : List ℕ) × IsCapabilities tail × (words ≡ before_nul words ++ tail)
nul_cut [] = ([], tt, refl)
nul_cut (b ∷ words) = by (b == 0) refl (nul_cut words)
  where
    by : (t : Bool) → (b == 0) ≡ t → (tail : List ℕ) × IsCapabilities tail × (words ≡ before_nul words ++ tail) → (tail : List ℕ) × IsCapabilities tail × (b ∷ words ≡ cond t [] (b ∷ before_nul words) ++ tail)
    by true e r = (b ∷ words, grind (arith, nat_tests), refl)
    by false e r = (r.0, r.1, ap (λ t. b ∷ t) r.2)

-- the name is found again before the capabilities
pub name_before : (name tail : List ℕ) → list_any is_break name ≡ false → IsCapabilities tail → before_nul (name ++ tail) ≡ name
name_before [] [] plain passed = refl
name_before [] (b ∷ bs) plain passed = ap (λ t. cond t [] (b ∷ before_nul bs)) (eq-eqb b 0 passed)
name_before (b ∷ name) tail plain passed =
    let p = or_parts (is_break b) (list_any is_break name) plain in
    let q = or_parts (b == 0) (b == 10 || b == 32) p.0 in
    ap (λ t. cond t [] (b ∷ before_nul (name ++ tail))) q.0 ∙ ap (λ t. b ∷ t) (name_before name tail p.1 passed)

-- ---- lines
abbrev words_or : Bool → ObjectId → List ℕ → Option Ref
words_or is_first id words = named_ref (cond is_first (before_nul words) words) id

abbrev id_or : Bool → List ℕ → ObjectId → Option Ref
id_or is_first rest id = after_word (32 ∷ []) rest >>= words_or is_first id

abbrev parts_or : Bool → List ℕ × List ℕ → Option Ref
parts_or is_first parts = id_of parts.0 >>= id_or is_first parts.1

named_some : (name : List ℕ) (id : ObjectId) (ref : Ref) (b : Bool) → is_name name ≡ b → cond b (Some (name, id)) None ≡ Some ref → IsName name × ((name, id) ≡ ref)
named_some name id ref true is e = (name_is name is, same_Some (name, id) ref e)
named_some name id ref false is e = absurd (cc e)

-- what a line is cut into
record Parts (is_first : Bool) (ref : Ref) (line : List ℕ) : Type 0 where
  digits : List ℕ
  words : List ℕ
  writes : WritesId ref.1 digits
  name : IsName ref.0
  front : cond is_first (before_nul words) words ≡ ref.0
  spelled : without_lf line ≡ digits ++ 32 ∷ words

parts_some : (is_first : Bool) (line : List ℕ) (ref : Ref) → ref_line is_first line ≡ Some ref → Parts is_first ref line
unfolding ref_line
parts_some is_first line ref e =
    let a = bind_some (split 40 (without_lf line)) (parts_or is_first) ref e in
    let b = bind_some (id_of a.0.0) (id_or is_first a.0.1) ref a.2 in
    let c = bind_some (after_word (32 ∷ []) a.0.1) (words_or is_first b.0) ref b.2 in
    let d = named_some (cond is_first (before_nul c.0) c.0) b.0 ref (is_name (cond is_first (before_nul c.0) c.0)) refl c.2 in
    record {
      digits = a.0.0;
      words = c.0;
      writes = id_some a.0.0 ref.1 (b.1 ∙ ap (λ (r : Ref). Some r.1) d.1);
      name = subst (λ (r : Ref). IsName r.0) d.1 d.0;
      front = ap (λ (r : Ref). r.0) d.1;
      spelled = split_some 40 (without_lf line) a.0 a.1 ∙ ap (λ t. a.0.0 ++ t) (after_word_some (32 ∷ []) a.0.1 c.0 c.1);
    }

parts_again : (is_first : Bool) (line : List ℕ) (ref : Ref) → Parts is_first ref line → ref_line is_first line ≡ Some ref
unfolding ref_line
parts_again is_first line ref p =
    let long = decode_sized-ok p.digits 20 ref.1.0 p.writes in
    ap (λ t. split 40 t >>= parts_or is_first) p.spelled
    ∙ ap (λ o. o >>= parts_or is_first) (split_again 40 p.digits (32 ∷ p.words) long)
    ∙ ap (λ o. o >>= id_or is_first (32 ∷ p.words)) (id_again p.digits ref.1 p.writes)
    ∙ ap (λ o. o >>= words_or is_first ref.1) (after_word_again (32 ∷ []) p.words)
    ∙ ap (λ t. named_ref t ref.1) p.front
    ∙ ap (λ b. cond b (Some ref) None) (name_again ref.0 p.name)

pub ref_some : (line : List ℕ) (ref : Ref) → ref_line false line ≡ Some ref → IsRefLine ref line
ref_some line ref e =
    let p = parts_some false line ref e in
    record { digits = p.digits; writes = p.writes; name = p.name; spelled = p.spelled ∙ ap (λ t. p.digits ++ 32 ∷ t) p.front }

pub ref_again : (line : List ℕ) (ref : Ref) → IsRefLine ref line → ref_line false line ≡ Some ref
ref_again line ref h = parts_again false line ref (record { digits = h.digits; words = ref.0; writes = h.writes; name = h.name; front = refl; spelled = h.spelled })

pub first_ref_some : (line : List ℕ) (ref : Ref) → ref_line true line ≡ Some ref → IsFirstRefLine ref line
first_ref_some line ref e =
    let p = parts_some true line ref e in
    let c = nul_cut p.words in
    record {
      digits = p.digits;
      tail = c.0;
      writes = p.writes;
      name = p.name;
      passed = c.1;
      spelled = p.spelled ∙ ap (λ t. p.digits ++ 32 ∷ t) (c.2 ∙ ap (λ t. t ++ c.0) p.front);
    }

pub first_ref_again : (line : List ℕ) (ref : Ref) → IsFirstRefLine ref line → ref_line true line ≡ Some ref
first_ref_again line ref h =
    parts_again true line ref (record { digits = h.digits; words = ref.0 ++ h.tail; writes = h.writes; name = h.name; front = name_before ref.0 h.tail h.name.plain h.passed; spelled = h.spelled })
