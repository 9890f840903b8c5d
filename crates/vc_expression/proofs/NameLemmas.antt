use Rattle.std.proofs.Common.{◌≡◌, ◌⊎◌, inl, inr, ◌==◌, nat_eq, codes, true≢false, arith, ℕ, List, [], ◌∷◌, ◌++◌, Bool, true, false, cond, refl, sym, ap, ◌∙◌}
use Rattle.std.specs.List.{list_any, starts_with, ends_with}
use Rattle.std.proofs.lemmas.Bool.Decides.{nat_tests, Decides-eqb}
use Rattle.std.proofs.lemmas.Slice.Eq.{ends_is}
use Rattle.std.proofs.lemmas.Bool.{or_parts}
use Rattle.vc_refname.specs.RefName.{IsRefName, is_bad_byte, occurs}
use Rattle.vc_refname.specs.declared.fault.NameFault.TheVariants as rules
use Rattle.vc_expression.specs.Base.{IsBase, is_stop, name_of, after_name}

pub name_ends : (text : List ℕ) → is_stop text ≡ true → (name_of text ≡ []) × (after_name text ≡ text)
name_ends [] h = (refl, refl)
name_ends (b ∷ bs) h = (rw h refl, rw h refl)

pub name_goes_on : (text : List ℕ) (b : ℕ) (bs : List ℕ) → is_stop text ≡ false → text ≡ b ∷ bs → (name_of (b ∷ bs) ≡ b ∷ name_of bs) × (after_name (b ∷ bs) ≡ after_name bs)
name_goes_on text b bs h e = let g : is_stop (b ∷ bs) ≡ false = sym (ap is_stop e) ∙ h in (rw g refl, rw g refl)

parts_at : (b : ℕ) (bs : List ℕ) (t : Bool) → name_of bs ++ after_name bs ≡ bs → cond t [] (b ∷ name_of bs) ++ cond t (b ∷ bs) (after_name bs) ≡ b ∷ bs
parts_at b bs true e = refl
parts_at b bs false e = ap (λ t. b ∷ t) e

-- a name and what follows it are the text
pub name_parts : (text : List ℕ) → name_of text ++ after_name text ≡ text
name_parts [] = refl
name_parts (b ∷ bs) = parts_at b bs (is_stop (b ∷ bs)) (name_parts bs)

-- A name that is a ref's holds nothing that ends a name.

pub record Plain (name : List ℕ) : Type 0 where
  pub bytes : list_any is_bad_byte name ≡ false
  pub dots : occurs (codes "..") name ≡ false
  pub end : (front : List ℕ) → name ≡ front ++ 46 ∷ [] → ⊥

plain_tail : (b : ℕ) (bs : List ℕ) → Plain (b ∷ bs) → Plain bs
plain_tail b bs p = record {
  bytes = (or_parts (is_bad_byte b) (list_any is_bad_byte bs) p.bytes).1;
  dots = (or_parts (starts_with nat_eq (b ∷ bs) (codes "..")) (occurs (codes "..") bs) p.dots).1;
  end = λ front e. p.end (b ∷ front) (ap (λ t. b ∷ t) e);
}

differs : (b k : ℕ) → (b ≡ k → ⊥) → (b == k) ≡ false
differs b k h = grind (arith, nat_tests, h)

good : (b k : ℕ) → is_bad_byte k ≡ true → is_bad_byte b ≡ false → (b == k) ≡ false
good b k bad fine = differs b k (λ e. true≢false (sym bad ∙ sym (ap is_bad_byte e) ∙ fine))

-- a text may follow a name
abbrev pub Stops : List ℕ → Type 0
Stops text = (text ≡ []) ⊎ (is_stop text ≡ true)

no_dots : (b : ℕ) (bs t : List ℕ) → Plain (b ∷ bs) → starts_with nat_eq (b ∷ (bs ++ t)) (codes "..") ≡ false
no_dots b [] t p = let other : (46 == b) ≡ false = differs 46 b (λ e. p.end [] (ap (λ x. x ∷ []) (sym e))) in rw other refl
no_dots b (d ∷ ds) t p = (or_parts (starts_with nat_eq (b ∷ d ∷ ds) (codes "..")) (occurs (codes "..") (d ∷ ds)) p.dots).0

pub goes_on : (b : ℕ) (bs t : List ℕ) → Plain (b ∷ bs) → is_stop (b ∷ (bs ++ t)) ≡ false
goes_on b bs t p =
    let fine : is_bad_byte b ≡ false = (or_parts (is_bad_byte b) (list_any is_bad_byte bs) p.bytes).0 in
    rw (good b 32 refl fine, good b 94 refl fine, good b 126 refl fine, good b 58 refl fine) (no_dots b bs t p)

plain_again : (name t : List ℕ) → Plain name → Stops t → (name_of (name ++ t) ≡ name) × (after_name (name ++ t) ≡ t)
plain_again [] t p (inl h) = (ap name_of h, ap after_name h ∙ sym h)
plain_again [] t p (inr h) = name_ends t h
plain_again (b ∷ bs) t p s =
    let both = plain_again bs t (plain_tail b bs p) s in
    let go : is_stop (b ∷ (bs ++ t)) ≡ false = goes_on b bs t p in
    (rw go (ap (λ n. b ∷ n) both.0), rw go both.1)

at_end : (front : List ℕ) → codes "@" ≡ front ++ 46 ∷ [] → ⊥
at_end front e = true≢false (sym ((ends_is Decides-eqb (codes "@") (codes ".") (ends_with nat_eq (codes "@") (codes ".")) refl).1 front e))

plain_name : (name : List ℕ) → IsRefName (codes "refs/" ++ name) → Plain name
plain_name name h = record {
  bytes = h rules.BadByte;
  dots = h rules.TwoDots;
  end = λ front e. true≢false (sym ((ends_is Decides-eqb (codes "refs/" ++ name) (codes ".") (ends_with nat_eq (codes "refs/" ++ name) (codes ".")) refl).1 (codes "refs/" ++ front) (ap (λ t. codes "refs/" ++ t) e)) ∙ h rules.FinalDot);
}

pub plain_base : (name : List ℕ) → IsBase name → Plain name
plain_base name (inl h) = rw h record { bytes = refl; dots = refl; end = at_end }
plain_base name (inr h) = plain_name name h.1

-- a base that is spelled is read
pub base_again : (name t : List ℕ) → IsBase name → Stops t → (name_of (name ++ t) ≡ name) × (after_name (name ++ t) ≡ t)
base_again name t h s = plain_again name t (plain_base name h) s
