-- The bytes of an object are those of no other, and have no fault.
use Rattle.std.proofs.Common.{◌≡◌, ◌≢◌, ℕ, zero, suc, ◌^◌, ◌<◌, ◌≤◌, min, List, [], ◌∷◌, ◌++◌, length, get_or, drop, Result, Ok, Err, refl, ap, sym, ◌∙◌, subst, arith, append_assoc, rules}
use Rattle.std.specs.Prelude.{IfOk, IfErr, IsOkAnd, decimal}
use Rattle.std.specs.List.{AllByRecursion}
use Rattle.std.proofs.lemmas.List.{append-nil, append_cancel_left}
use Rattle.std.proofs.lemmas.Str.Parse.{IsNumeralModel, numerals_by_fold}
use Rattle.std.proofs.lemmas.Fmt.{digits_decimal, digits_value-decimal, decimal-digits_value, decimal_nonempty, first_decimal, decimal_digit}
use Rattle.std.proofs.Math.Logic.{∥∥₁_elim}
use Rattle.std.specs.Coded.{le_prop}
use Rattle.vc_object.specs.Bytes.{Without}
use Rattle.vc_object.specs.Kind.{front}
use Rattle.vc_object.specs.Header.{IsDigit, IsSize, number_after, number, header, HeaderFault}
use Rattle.vc_object.specs.Object.{IsBody, IsObject, object_bytes}
use Rattle.vc_object.specs.ObjectFault as fault
use Rattle.vc_object.specs.ObjectFault.{GrammarFault, SizedFault, BytesFault}
use Rattle.vc_object.specs.declared.kind.Kind.{Kind}
use Rattle.vc_object.specs.declared.kind.Kind.TheVariants.{Blob, Tree, Commit, Tag}
use Rattle.vc_object.specs.declared.fault.ObjectFault.{ObjectFault}
use Rattle.vc_object.specs.declared.fault.ObjectFault.TheVariants.{BadHeader, Cut}
use Rattle.vc_object.specs.declared.object.Object.{Object}
use Rattle.vc_object.proofs.Texts.{cut_once}
use Rattle.vc_object.proofs.Headers.{fronts_apart, header_parts}
use Rattle.vc_object.proofs.Faults.{faulty}

own : IsNumeralModel (λ ds. AllByRecursion IsDigit ds) number
own = numerals_by_fold _ (search rules) number_after (search rules)

pub number_decimal : (n : ℕ) → n < 2 ^ 64 → number (decimal n) ≡ n
number_decimal n h = digits_value-decimal own n h

pub decimal_number : (ds : List ℕ) → IsSize ds → number ds < 2 ^ 64 → decimal (number ds) ≡ ds
decimal_number ds s h = decimal-digits_value own ds s.all (some ds s.some) (short ds s) h where
  some : (xs : List ℕ) → xs ≢ [] → 0 < length xs
  some [] e = absurd (e refl)
  some (x ∷ xs) e = omega arith

  short : (xs : List ℕ) → IsSize xs → get_or xs 0 0 ≡ 48 → length xs ≡ 1
  short [] i e = absurd (omega arith)
  short (x ∷ xs) i e = ap (λ r. length (x ∷ r)) (i.short xs (ap (λ y. y ∷ xs) e))

lone : (n : ℕ) (more : List ℕ) → n < 2 ^ 64 → decimal n ≡ 48 ∷ more → more ≡ []
lone zero more h e = ap (drop 1) (sym e ∙ decimal_digit 0 (omega arith))
lone (suc n) more h e = let f = first_decimal (suc n) (omega arith) h in let g : get_or (decimal (suc n)) 0 0 ≡ 48 = ap (λ l. get_or l 0 0) e in absurd (omega arith)

pub decimal_size : (n : ℕ) → n < 2 ^ 64 → IsSize (decimal n)
decimal_size n h = record {
  all = digits_decimal own n h;
  some = λ e. let l = decimal_nonempty n h in let z = ap length e in absurd (omega arith);
  short = λ more e. lone n more h e;
}

pub digits_no_nul : (ds : List ℕ) → AllByRecursion IsDigit ds → Without 0 ds
digits_no_nul [] a = tt
digits_no_nul (d ∷ ds) a = ((λ e. let k = a.0.0 in absurd (omega arith)), digits_no_nul ds a.1)

pub header_once : (j k : Kind) (a b x y : List ℕ) → IsSize a → IsSize b → header j a ++ x ≡ header k b ++ y → (j ≡ k) × (a ≡ b) × (x ≡ y)
header_once j k a b x y s t e =
    let parts : front j ++ ((a ++ 0 ∷ []) ++ x) ≡ front k ++ ((b ++ 0 ∷ []) ++ y) = sym (header_parts j a x) ∙ e ∙ header_parts k b y in
    let same = fronts_apart j k _ _ parts in
    let behind : (a ++ 0 ∷ []) ++ x ≡ (b ++ 0 ∷ []) ++ y = append_cancel_left (front j) _ _ (parts ∙ ap (λ i. front i ++ ((b ++ 0 ∷ []) ++ y)) (sym same)) in
    let ends = cut_once 0 a b x y (digits_no_nul a s.all) (digits_no_nul b t.all) (sym (append_assoc a (0 ∷ []) x) ∙ behind ∙ append_assoc b (0 ∷ []) y) in
    (same, ends.0, ends.1)

pub no_grammar : (k : Kind) (body : List ℕ) (e : ObjectFault) → GrammarFault k body e → IsBody k body → ⊥
no_grammar Blob body e f b = f
no_grammar Tree body e f b = faulty body e f b
no_grammar Commit body e f b = f.1 b
no_grammar Tag body e f b = f.1 b

module _ (k : Kind) (body : List ℕ) (object : IsObject k body) where
  small : length body < 2 ^ 64
  small = let s = object.size in omega arith

  no_header_fault : (bytes : List ℕ) → bytes ≡ object_bytes k body → (e : ObjectFault) → HeaderFault bytes e → ⊥
  no_header_fault bytes is Cut f =
      let b = f.3 in
      let once = header_once k f.0 (decimal (length body)) f.1 (body ++ b.0) [] (decimal_size (length body) small) f.2 (sym (append_assoc (header k (decimal (length body))) body b.0) ∙ ap (λ t. t ++ b.0) (sym is) ∙ b.2 ∙ sym (append-nil (header f.0 f.1))) in
      b.1 (end body b.0 once.2)
    where
      end : (xs ys : List ℕ) → xs ++ ys ≡ [] → ys ≡ []
      end [] ys e = e
      end (x ∷ xs) ys e = absurd (cc e)
  no_header_fault bytes is BadHeader f = f k (decimal (length body)) (decimal_size (length body) small) [] body (append-nil bytes ∙ is)
  no_header_fault bytes is _ f = f

  no_sized_fault : (n : ℕ) (e : ObjectFault) → n ≡ length body → SizedFault k n body e → ⊥
  no_sized_fault n e same (fault.too_large large is) = let s = object.size in omega arith
  no_sized_fault n e same (fault.cut fits short is) = omega arith
  no_sized_fault n e same (fault.bad_size fits long is) = omega arith
  no_sized_fault n e same (fault.no_grammar fits long f) = no_grammar k body e f object.grammar

  pub no_fault : (bytes : List ℕ) (e : ObjectFault) → bytes ≡ object_bytes k body → BytesFault bytes e → ⊥
  no_fault bytes e is (fault.of_header f) = no_header_fault bytes is e f
  no_fault bytes e is (fault.of_body j size rest s b f) =
      let once = header_once j k size (decimal (length body)) rest body s (decimal_size (length body) small) (sym b ∙ is) in
      no_sized_fault (number size) e (ap number once.1 ∙ number_decimal (length body) small)
      (subst (λ (i : Kind). SizedFault i (number size) body e) once.0 (subst (λ (t : List ℕ). SizedFault j (number size) t e) once.2 f))

pub found_law : (bytes : List ℕ) (r : Result Object ObjectFault) → IfOk r (λ o. bytes ≡ object_bytes o.kind o.body.now) → IfOk r (λ o. length o.body.now ≤ 16777216) → IfErr r (BytesFault bytes) → (k : Kind) (body : List ℕ) → ∥ IsObject k body ∥₁ → bytes ≡ object_bytes k body → IsOkAnd r (λ o. (o.kind ≡ k) × (o.body.now ≡ body))
found_law bytes (Ok o) ok low err k body object is =
    let fits : length body ≤ 16777216 = ∥∥₁_elim object le_prop (λ i. i.size) in
    let once = header_once o.kind k (decimal (length o.body.now)) (decimal (length body)) o.body.now body (decimal_size (length o.body.now) (omega arith)) (decimal_size (length body) (omega arith)) (sym ok ∙ is) in (once.0, once.2)
found_law bytes (Err e) ok low err k body object is = absurd (∥∥₁_elim object (λ x. absurd x) (λ i. no_fault k body i bytes e is err))

-- a size that is within the limit is written in decimal
pub sized : (ds : List ℕ) (n : ℕ) → IsSize ds → n ≡ min (number ds) 16777217 → n ≤ 16777216 → (number ds ≡ n) × (decimal n ≡ ds)
sized ds n s e h =
    let same : number ds ≡ n = omega arith in
    (same, ap decimal (sym same) ∙ decimal_number ds s (omega arith))
