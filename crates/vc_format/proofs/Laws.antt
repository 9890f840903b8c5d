-- Git's links and parents are as the machine asks of a format.
use Rattle.std.proofs.Common.{◌≡◌, ℕ, List, [], ◌∷◌, map, Option, Some, None, refl, sym, ap, ◌∙◌, subst, arith, Contains, unwrap_or, option_map}
use Rattle.std.specs.List.{AllByRecursion}
use Rattle.vc_refname.specs.RefName.{first_broken_rule}
use Rattle.std.proofs.lemmas.List.Elements.{Contains-append_right}
use Rattle.vc_object.specs.declared.kind.Kind.TheVariants as kinds
use Rattle.vc_object.specs.Bytes.{Without}
use Rattle.vc_object.specs.Lines.{IsId}
use Rattle.vc_object.specs.Links.{links_of, parents_of, commit_links}
use Rattle.vc_object.specs.Commit.{CommitText, IsCommit, commit_bytes}
use Rattle.vc_object.specs.CommitReading.{commit_of}
use Rattle.vc_object.proofs.Commits.{commit_again}
use Rattle.vc_model.specs.Object.{Id, Kind, Object, IsLine}
use Rattle.vc_model.specs.Object.Kind.{Blob, Tree, Commit, Tag}
use Rattle.vc_format.specs.Git.{kind_of, bytes_of_id, id_of_bytes, git_name, commit_text, SpellsCommits, LinksAgree, MainIsName}
use Rattle.vc_object.proofs.Names.{name_bytes, name_length, byte_of}

-- ---- links agree

blob_links : (k : Kind) (body : List ℕ) → k ≡ Blob → map bytes_of_id (links_of (kind_of k) body) ≡ []
blob_links k body e = subst (λ (k : Kind). map bytes_of_id (links_of (kind_of k) body) ≡ []) (sym e) refl

commit_parents_linked : (c : Option CommitText) (x : Id) → Contains (map bytes_of_id (unwrap_or (option_map (λ (c : CommitText). c.parents) c) [])) x → Contains (map bytes_of_id (commit_links c)) x
commit_parents_linked None x h = h
commit_parents_linked (Some c) x h = Contains-append_right (bytes_of_id c.tree ∷ []) (map bytes_of_id c.parents) x h

none_contained : (xs : List Id) (x : Id) → Contains [] x → Contains xs x
none_contained xs x c = absurd (let k = c.1 in omega arith)

parents_linked : (k : Kind) (body : List ℕ) (x : Id) → Contains (map bytes_of_id (unwrap_or (parents_of (kind_of k) body) [])) x → Contains (map bytes_of_id (links_of (kind_of k) body)) x
parents_linked Commit body x h = commit_parents_linked (commit_of body) x h
parents_linked Blob body x h = none_contained (map bytes_of_id (links_of kinds.Blob body)) x h
parents_linked Tree body x h = none_contained (map bytes_of_id (links_of kinds.Tree body)) x h
parents_linked Tag body x h = none_contained (map bytes_of_id (links_of kinds.Tag body)) x h

pub links_agree : LinksAgree
links_agree = (λ o e. blob_links o.kind o.body e, λ o x h. parents_linked o.kind o.body x h)

-- ---- commits

same_ids : (xs : List Id) → map bytes_of_id (map id_of_bytes xs) ≡ xs
same_ids [] = refl
same_ids (x ∷ xs) = ap (λ (ys : List Id). x ∷ ys) (same_ids xs)

-- an object's name is an id
named_id : (x : Id) → (o : Object) × (git_name o ≡ x) → IsId (id_of_bytes x)
named_id x o = subst (λ (x : Id). IsId (id_of_bytes x)) o.1 (record { sized = name_length _; bytes = λ i. byte_of _ (name_bytes _) i })

-- a list that contains ids alone
ids_of : (xs : List Id) → ((x : Id) → Contains xs x → (o : Object) × (git_name o ≡ x)) → AllByRecursion IsId (map id_of_bytes xs)
ids_of [] h = tt
ids_of (x ∷ xs) h = (named_id x (h x (0, omega arith, refl)), ids_of xs (λ y c. h y (Contains-append_right (x ∷ []) xs y c)))

without : (text : List ℕ) → IsLine text → Without 10 text
without [] h = tt
without (b ∷ bs) h = (λ e. h (0, omega arith, e), without bs (λ c. h (Contains-append_right (b ∷ []) bs 10 c)))

pub spells_commits : SpellsCommits
spells_commits tree ps author committer message named a c =
    let text : CommitText = commit_text tree ps author committer message in
    let ids = ids_of (tree ∷ ps) named in
    let legal : IsCommit text = record { tree = ids.0; parents = ids.1; author = without author a; committer = without committer c } in
    let read : commit_of (commit_bytes text) ≡ Some text = commit_again text legal in (
      ap (λ (o : Option CommitText). map bytes_of_id (commit_links o)) read ∙ ap (λ (xs : List Id). tree ∷ xs) (same_ids ps),
      ap (λ (o : Option CommitText). map bytes_of_id (unwrap_or (option_map (λ (c : CommitText). c.parents) o) [])) read ∙ same_ids ps,
    )

-- ---- names

pub main_is_name : MainIsName
unfolding first_broken_rule
main_is_name = refl
