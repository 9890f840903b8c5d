-- For what reads arguments: the getters of matches, by the rows that the parse found.
use Rattle.std.proofs.Common.{◌≡◌, ◌≢◌, ◌∙◌, ◌^◌, ◌&&◌, ◌++◌, ℕ, Bool, true, false, List, [], ◌∷◌, Option, Some, None, Result, Ok, Err, map, codes, length, refl, sym, ap, ap₂, lt-ltb, ltb-true, nat_lt}
use Rattle.std.specs.Prelude.{find, option_map, option_and_then, unwrap_or}
use Rattle.std.specs.Borrow.{Bor}
use Rattle.std.specs.List.{join_by, flat_map, list_all}
use Rattle.std.specs.Char.{digit_value}
use Rattle.std.specs.Str.{bytes_eq}
use Rattle.std.specs.Str.Parse.{AllDigits, ParsesBool, ParsesUnsigned, digits_value, without_leading_plus}
use Rattle.std.proofs.lemmas.Slice.Eq.{bytes_eq-Decides}
use Rattle.std.specs.Box.{box_value}
use Rattle.clap.specs.Matches.{ReadsOne, found_of, matched_of, one_text, raw_values, subcommand_name_of}
use Rattle.clap.specs.Simple.{subcommand_rows_of}
use Rattle.clap.specs.Facts.{Entry}
use Rattle.clap.specs.Walk.{Row, Text, row_of, rows_of}
use Rattle.clap.specs.ValueTests.{is_numeral}
use Rattle.clap.specs.declared.parser.matches.ArgMatches.{ArgMatches}
use Rattle.clap.specs.declared.parser.matches.ArgMatches.TheViews.{out-ArgMatches, out-SubCommand}
use Rattle.clap.specs.declared.parser.matches.Found.{Found}
use Rattle.clap.specs.declared.parser.matches.MatchedArg.{MatchedArg}
use Rattle.clap.proofs.WalkLemmas.{both, find-map, one_text-rows, raw_values-rows}
use Rattle.vc_arguments.specs.Reading.{is_on, is_true, number, number_of}
use Rattle.vc_arguments.specs.Requests.{list_of}
use Rattle.vc_arguments.specs.Views.{held}

-- the text of a value that may be missing
pub text_or : (o : Option (Bor Text)) (other r : Bor Text) (v : Option Text) → option_map (λ s. s.now) o ≡ v → r ≡ unwrap_or o other
    → r.now ≡ unwrap_or v other.now
text_or None other r v e is = ap (λ (s : Bor Text). s.now) is ∙ ap (λ w. unwrap_or w other.now) e
text_or (Some x) other r v e is = ap (λ (s : Bor Text). s.now) is ∙ ap (λ w. unwrap_or w other.now) e

-- a value that may be missing, wherever it lies
pub held_value : (o : Option (Bor Text)) (v : Option Text) → option_map (λ s. s.now) o ≡ v → option_map (λ s. held s.now) o ≡ option_map held v
held_value None v e = ap (option_map held) e
held_value (Some x) v e = ap (option_map held) e

not_equal : (a b : Text) → a ≢ b → bytes_eq a b ≡ false
not_equal a b h = go (bytes_eq a b) refl
  where
    go : (t : Bool) → bytes_eq a b ≡ t → bytes_eq a b ≡ false
    go false e = e
    go true e = absurd (h ((bytes_eq-Decides a b).0 e))

-- a switch, read as a `bool`
pub switch_read : (E : Type 0) (f : Found) (id : Text) (r : Option Bool) (on : Bool) → (one_text f id ≡ None → r ≡ None)
    → ((t : List ℕ) → one_text f id ≡ Some t → ReadsOne {E = E} ParsesBool t r) → on ≡ unwrap_or r false → on ≡ is_on id (rows_of f)
switch_read E f id r on none value is = is ∙ (go (one_text f id) refl ∙ ap is_true (one_text-rows f id))
  where
    named : (t : List ℕ) (o : Option Bool) → ReadsOne {E = E} ParsesBool t o → unwrap_or o false ≡ is_true (Some t)
    named t (Some true) h = ap (λ (u : Text). is_true (Some u)) (sym h)
    named t (Some false) h = ap (λ (u : Text). is_true (Some u)) (sym h)
    named t None h = sym (not_equal t (codes "true") h.1.0)

    go : (o : Option Text) → one_text f id ≡ o → unwrap_or r false ≡ is_true (one_text f id)
    go None e = ap (λ (o : Option Bool). unwrap_or o false) (none e) ∙ ap is_true (sym e)
    go (Some t) e = named t r (value t e) ∙ ap is_true (sym e)

digits_pass : (ds : List ℕ) → AllDigits 10 ds → list_all (λ d. nat_lt (digit_value d) 10) ds ≡ true
digits_pass [] h = refl
digits_pass (d ∷ ds) h = rw (lt-ltb (digit_value d) 10 h.0) (digits_pass ds h.1)

digits_from : (ds : List ℕ) → list_all (λ d. nat_lt (digit_value d) 10) ds ≡ true → AllDigits 10 ds
digits_from [] e = tt
digits_from (d ∷ ds) e =
    let parts = both _ _ e in
    (ltb-true _ _ parts.0, digits_from ds parts.1)

-- a number that was read, and a text that is none
numeral : (E : Type 0) (bits : ℕ) (t : Text) (n : ℕ) → ParsesUnsigned {E = E} bits 10 t (Ok n) → Some n ≡ number bits t
numeral E bits t n h =
    let digits = without_leading_plus t in
    rw (lt-ltb 0 (length digits) h.0.0.0, digits_pass digits h.0.0.1, lt-ltb (digits_value 10 digits) (2 ^ bits) h.0.1) (ap Some h.1)

no_numeral : {E : Type 0} (bits : ℕ) (t : Text) (e : E) → ParsesUnsigned bits 10 t (Err e) → None ≡ number bits t
no_numeral bits t e h = go (is_numeral (without_leading_plus t) && nat_lt (digits_value 10 (without_leading_plus t)) (2 ^ bits)) refl
  where
    go : (b : Bool) → (is_numeral (without_leading_plus t) && nat_lt (digits_value 10 (without_leading_plus t)) (2 ^ bits)) ≡ b → None ≡ number bits t
    go false is = rw is refl
    go true is =
        let outer = both _ _ is in
        let inner = both _ _ outer.0 in
        absurd (h ((ltb-true _ _ inner.0, digits_from (without_leading_plus t) inner.1), ltb-true _ _ outer.1))

-- a number, read as an unsigned integer of so many bits
pub number_read : {E : Type 0} (bits : ℕ) (Gives : List ℕ → Result ℕ E → Type 0) (f : Found) (id : Text) (r : Option ℕ)
    → ((t : List ℕ) (x : Result ℕ E) → Gives t x → ParsesUnsigned bits 10 t x)
    → (one_text f id ≡ None → r ≡ None) → ((t : List ℕ) → one_text f id ≡ Some t → ReadsOne Gives t r) → r ≡ number_of bits id (rows_of f)
number_read {E} bits Gives f id r only none value = go (one_text f id) refl ∙ ap (option_and_then (number bits)) (one_text-rows f id)
  where
    read : (t : List ℕ) (o : Option ℕ) → ReadsOne Gives t o → o ≡ number bits t
    read t (Some n) h = numeral E bits t n (only t (Ok n) h)
    read t None h = no_numeral bits t h.0 (only t (Err h.0) h.1)

    go : (o : Option Text) → one_text f id ≡ o → r ≡ option_and_then (number bits) (one_text f id)
    go None e = none e ∙ ap (option_and_then (number bits)) (sym e)
    go (Some t) e = read t r (value t e) ∙ ap (option_and_then (number bits)) (sym e)

both_of : {S P : Type 0} (f : S → Text) (g : S → List Row) (f' : P → Text) (g' : P → List Row) (s : Option S) (o : Option P)
    → option_map f' o ≡ option_map f s → option_map g' o ≡ option_map (λ (p : Text × List Row). p.1) (option_map {U = Text × List Row} (λ b. (f b, g b)) s)
    → option_map {U = Text × List Row} (λ b. (f b, g b)) s ≡ option_map {U = Text × List Row} (λ p. (f' p, g' p)) o
both_of f g f' g' None None name rows = refl
both_of f g f' g' None (Some p) name rows = cc
both_of f g f' g' (Some b) None name rows = cc
both_of f g f' g' (Some b) (Some p) name rows =
    let same_name : f b ≡ f' p = sym (ap (λ (o : Option Text). unwrap_or o (f b)) name) in
    let same_rows : g b ≡ g' p = sym (ap (λ (o : Option (List Row)). unwrap_or o (g b)) rows) in
    ap₂ (λ (n : Text) (r : List Row). Some (n, r)) same_name same_rows

-- the subcommand that `subcommand` gives
pub entered_is : (m : ArgMatches) (o : Option (Bor Text × Bor ArgMatches)) → option_map (λ p. p.0.now) o ≡ subcommand_name_of m
    → option_map (λ p. rows_of (found_of p.1.now)) o ≡ option_map (λ (p : Text × List Row). p.1) (subcommand_rows_of m)
    → subcommand_rows_of m ≡ option_map {U = Text × List Row} (λ p. (p.0.now, rows_of (found_of p.1.now))) o
entered_is m o name rows =
    both_of (λ b. (out-SubCommand (box_value b)).name.now) (λ b. rows_of (found_of (out-SubCommand (box_value b)).matches))
    (λ p. p.0.now) (λ p. rows_of (found_of p.1.now)) (out-ArgMatches m).subcommand o name rows

-- texts joined, wherever they lie
pub joined : (sep : Text) (xs : List (Bor Text)) → join_by (λ s. s.now) sep xs ≡ join_by (λ t. t) sep (map (λ s. s.now) xs)
joined sep [] = refl
joined sep (x ∷ xs) = ap (λ (rest : Text). x.now ++ rest) (go xs)
  where
    go : (ys : List (Bor Text)) → flat_map (λ s. sep ++ s.now) ys ≡ flat_map (λ t. sep ++ t) (map (λ s. s.now) ys)
    go [] = refl
    go (y ∷ ys) = ap (λ (rest : Text). (sep ++ y.now) ++ rest) (go ys)

pub entered_some : (m : ArgMatches) (o : Option (Bor Text × Bor ArgMatches)) (name : Bor Text) (words : Bor ArgMatches)
    → option_map (λ p. p.0.now) o ≡ subcommand_name_of m
    → option_map (λ p. rows_of (found_of p.1.now)) o ≡ option_map (λ (p : Text × List Row). p.1) (subcommand_rows_of m)
    → o ≡ Some (name, words) → subcommand_rows_of m ≡ Some (name.now, rows_of (found_of words.now))
entered_some m o name words names rows is =
    entered_is m o names rows ∙ ap (option_map {U = Text × List Row} (λ (p : Bor Text × Bor ArgMatches). (p.0.now, rows_of (found_of p.1.now)))) is

-- where the value of an argument comes from
pub source-rows : (f : Found) (id : Text) → option_and_then (λ a. a.source) (matched_of f id)
    ≡ option_and_then (λ r. r.source) (find (λ (r : Row). bytes_eq r.id id) (rows_of f))
source-rows f id =
    go (find (λ (e : Entry). bytes_eq e.0.now id) f.entries.items)
    ∙ ap (option_and_then (λ (r : Row). r.source)) (find-map (λ (r : Row). bytes_eq r.id id) row_of f.entries.items)
  where
    go : (o : Option Entry) → option_and_then (λ (a : MatchedArg). a.source) (option_map (λ (e : Entry). e.1) o) ≡ option_and_then (λ (r : Row). r.source) (option_map row_of o)
    go None = refl
    go (Some e) = refl

-- the values of an argument that may have many
pub listed : (m : ArgMatches) (id name : Text) (f : Found) (xs : List (Bor Text)) (v : Option (List Text)) → subcommand_rows_of m ≡ Some (name, rows_of f)
    → v ≡ option_map raw_values (matched_of f id) → map (λ s. s.now) xs ≡ unwrap_or v [] → map (λ s. s.now) xs ≡ list_of id (subcommand_rows_of m)
listed m id name f xs v entered given is =
    is ∙ (ap (λ (w : Option (List Text)). unwrap_or w []) (given ∙ raw_values-rows f id) ∙ ap (list_of id) (sym entered))
