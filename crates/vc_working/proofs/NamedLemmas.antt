-- For the files that words name: what one word more adds, and the first word that is refused.
use Rattle.std.proofs.Common.{arith, ◌≡◌, inl, inr, ℕ, zero, suc, ◌+◌, ◌<◌, Bool, cond, List, [], ◌∷◌, ◌++◌, map, filter, length, take, get_or, Bor, sym, ap, ◌∙◌}
use Rattle.std.specs.Prelude.{String, string_bytes}
use Rattle.std.specs.Global.{Global}
use Rattle.std.specs.List.{AllByRecursion}
use Rattle.std.proofs.lemmas.List.{map-append, take_more}
use Rattle.std.proofs.lemmas.List.Elements.{filter-append}
use Rattle.vc_files.specs.FileMap.{FileMap}
use Rattle.vc_local.specs.declared.fault.NodeFault.TheVariants as node
use Rattle.vc_working.specs.Naming.{FirstWord, Names, RefusesWord, RefusesWords}
use Rattle.vc_cli.specs.declared.failure.Failure.{Failure}
use Rattle.vc_cli.specs.declared.failure.Failure.TheVariants.{Node, NoSuchPath, Fault}

-- ---- the paths that pass a test

module _ (test : List ℕ → Bool) (all : List (String Global)) (i : ℕ) (path : String Global) (lt : i < length all) (is : path ≡ get_or all i path) (start before : List (List ℕ)) (begun : before ≡ start ++ filter test (map string_bytes (take i all))) where
  one_more : filter test (map string_bytes (take (i + 1) all)) ≡ filter test (map string_bytes (take i all)) ++ cond (test (string_bytes path)) (string_bytes path ∷ []) []
  one_more =
      ap (λ (xs : List (String Global)). filter test (map string_bytes xs)) (take_more all i path lt ∙ ap (λ (p : String Global). take i all ++ p ∷ []) (sym is))
      ∙ ap (filter test) (map-append string_bytes (take i all) (path ∷ [])) ∙ filter-append test (map string_bytes (take i all)) (string_bytes path ∷ [])

-- ---- whether any was added

-- ---- one word after the other

abbrev pub word_bytes : Bor (List ℕ) → List ℕ
word_bytes word = word.now

front_more : (words : List (Bor (List ℕ))) (i : ℕ) (d : Bor (List ℕ)) → i < length words → map word_bytes (take (i + 1) words) ≡ map word_bytes (take i words) ++ (get_or words i d).now ∷ []
front_more words i d lt = ap (map word_bytes) (take_more words i d lt) ∙ map-append word_bytes (take i words) (get_or words i d ∷ [])

module _ (work : FileMap) (own : List ℕ) where
  first_word : (IsSo : List ℕ → Type 0) (words : List (Bor (List ℕ))) (i : ℕ) (d : Bor (List ℕ)) → i < length words → AllByRecursion (Names work own) (map word_bytes (take i words)) → IsSo (get_or words i d).now
      → FirstWord work own IsSo (map word_bytes words)
  first_word IsSo [] i d lt each is = let out : ⊥ = omega (arith, lt) in absurd out
  first_word IsSo (w ∷ words) zero d lt each is = inl is
  first_word IsSo (w ∷ words) (suc i) d lt each is = inr (each.0, first_word IsSo words i d (let less : i < length words = omega (arith, lt) in less) each.1 is)

  -- the first word that is refused, behind those that name files
  pub word_refused : (words : List (Bor (List ℕ))) (i : ℕ) (d : Bor (List ℕ)) → i < length words → (e : Failure) → AllByRecursion (Names work own) (map word_bytes (take i words)) → RefusesWord work own (get_or words i d).now e
      → RefusesWords work own (map word_bytes words) e
  word_refused words i d lt (Node node.BadPath) each refuses = first_word _ words i d lt each refuses
  word_refused words i d lt NoSuchPath each refuses = first_word _ words i d lt each refuses
  word_refused words i d lt (Fault fault) each refuses = tt
  word_refused words i d lt _ each refuses = absurd refuses
