-- A small object format, for worlds that are computed by hand: a name is the object itself, so that no two objects share one.
use Rattle.std.specs.Prelude.{◌≡◌, ℕ, zero, suc, true, List, [], ◌∷◌, ◌++◌, Contains, drop, refl}
use Rattle.std.proofs.Common.{sym, ap, ◌∙◌, subst}
use Rattle.std.proofs.lemmas.List.Elements.{Contains-append_right}
use Rattle.vc_model.specs.Object.{Id, Kind, Object, Format}
use Rattle.vc_model.specs.Object.Kind.{Blob, Tree, Commit, Tag}

-- a word is spelled by its numbers, each one more, and a 0
abbrev pub spelled : List ℕ → List ℕ
spelled [] = 0 ∷ []
spelled (n ∷ ns) = suc n ∷ spelled ns

abbrev pub spelled_all : List (List ℕ) → List ℕ
spelled_all [] = []
spelled_all (w ∷ ws) = spelled w ++ spelled_all ws

abbrev pub with_front : ℕ → List (List ℕ) → List (List ℕ)
with_front n [] = []
with_front n (w ∷ ws) = (n ∷ w) ∷ ws

-- the words that a text spells
abbrev pub words : List ℕ → List (List ℕ)
words [] = []
words (zero ∷ rest) = [] ∷ words rest
words (suc n ∷ rest) = with_front n (words rest)

abbrev pub kind_letter : Kind → ℕ
kind_letter Blob = 1
kind_letter Tree = 2
kind_letter Commit = 3
kind_letter Tag = 4

abbrev pub small_name : Object → Id
small_name o = kind_letter o.kind ∷ o.body

-- A blob links to nothing, a tree or a tag to its words, a commit to those after its message.
abbrev pub links_by : Kind → List ℕ → List Id
links_by Blob body = []
links_by Tree body = words body
links_by Commit body = drop 1 (words body)
links_by Tag body = words body

abbrev pub small_links : Object → List Id
small_links o = links_by o.kind o.body

abbrev pub small_commit : Id → List Id → List ℕ → List ℕ
small_commit tree parents message = spelled message ++ spelled_all (tree ∷ parents)

pub words-spelled : (w rest : List ℕ) → words (spelled w ++ rest) ≡ w ∷ words rest
words-spelled [] rest = refl
words-spelled (n ∷ ns) rest = ap (with_front n) (words-spelled ns rest)

pub words-spelled_all : (ws : List (List ℕ)) → words (spelled_all ws) ≡ ws
words-spelled_all [] = refl
words-spelled_all (w ∷ ws) = words-spelled w (spelled_all ws) ∙ ap (λ (rest : List (List ℕ)). w ∷ rest) (words-spelled_all ws)

pub words-small_commit : (tree : Id) (ps : List Id) (message : List ℕ) → words (small_commit tree ps message) ≡ message ∷ (tree ∷ ps)
words-small_commit tree ps message = words-spelled message (spelled_all (tree ∷ ps)) ∙ ap (λ (rest : List (List ℕ)). message ∷ rest) (words-spelled_all (tree ∷ ps))

pub without_links : (k : Kind) (body : List ℕ) → k ≡ Blob → links_by k body ≡ []
without_links k body e = subst (λ (k : Kind). links_by k body ≡ []) (sym e) refl

pub in_rest : (xs : List Id) (x : Id) → Contains (drop 1 xs) x → Contains xs x
in_rest [] x c = c
in_rest (y ∷ xs) x c = Contains-append_right (y ∷ []) xs x c

-- Authors and committers are not kept.
abbrev pub small_format : Format
small_format = record {
  name_of = small_name;
  links = small_links;
  parents = λ o. drop 1 (small_links o);
  is_name = λ _. true;
  is_legal = λ _. true;
  legal_names = λ n l. refl;
  main_is_name = refl;
  commit_body = λ tree ps author committer message. small_commit tree ps message;
  blobs = λ o e. without_links o.kind o.body e;
  parents_linked = λ o x c. in_rest (small_links o) x c;
  commit_links = λ tree ps author committer message named a c. ap (drop 1) (words-small_commit tree ps message);
  commit_parents = λ tree ps author committer message named a c. ap (λ (ws : List (List ℕ)). drop 1 (drop 1 ws)) (words-small_commit tree ps message);
}
