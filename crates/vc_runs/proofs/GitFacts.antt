-- What the run asks of its format, rules and objects holds at Git's.
use Rattle.std.proofs.Common.{inl, ◌⊎◌, ◌++◌, suc, length-append, map, cond, ◌≡◌, ◌≢◌, ℕ, Bool, true, false, not, List, [], ◌∷◌, ◌==◌, Some, None, Ok, inr, refl, sym, ap, ◌∙◌, subst, length, get_or, arith, Contains}
use Rattle.std.specs.Prelude.{IsTrue, IsUtf8, codes, option_map, bytes_eq}
use Rattle.std.specs.FinMap.{get, insert, empty, get-empty}
use Rattle.std.specs.List.{AllByRecursion, list_all}
use Rattle.std.specs.Str.{is_utf8, chars}
use Rattle.std.specs.Cmp.Lexicographic.{slice_cmp, nat_list_cmp_total}
use Rattle.std.specs.Ordering.{nat_cmp}
use Rattle.std.proofs.lemmas.Bool.{and_parts}
use Rattle.std.proofs.lemmas.Slice.Eq.{bytes_eq-Decides}
use Rattle.hex.specs.Hex.{encode_with}
use Rattle.vc_object.specs.Bytes.{Without}
use Rattle.vc_object.specs.Commit.{CommitText}
use Rattle.vc_object.specs.Lines.{IsId}
use Rattle.vc_object.specs.Tree.{Entry}
use Rattle.vc_object.proofs.Reading.{entries_again}
use Rattle.vc_object.specs.Links.{entry_links}
use Rattle.vc_refname.specs.RefName.{is_ref_name, first_broken_rule}
use Rattle.vc_refname.proofs.BrokenRules.{legal_from_is_ref_name}
use Rattle.vc_object_map.specs.Store.{with_object}
use Rattle.vc_index.specs.WrittenTrees.{tree_object}
use Rattle.vc_index.specs.declared.entry.IndexEntry.{IndexEntry}
use Rattle.vc_index.specs.FolderTrees.{NamesAll}
use Rattle.vc_index.specs.IndexMap.{IndexMap, IsIndex, index_entry}
use Rattle.vc_index.specs.Path.{IsPath}
use Rattle.vc_index.proofs.MapLemmas.{empty-IsIndex, insert-IsIndex, got, no_some}
use Rattle.vc_object.specs.Tree.{IsName, IsEntry, spelling}
use Rattle.vc_object.specs.declared.mode.Mode.TheVariants as modes
use Rattle.vc_values.specs.Trees.{ShowsIndex, machine_entry, TreesGive, HoldsTrees}
use Rattle.vc_rev.specs.Meaning.{or_refusal}
use Rattle.vc_rev.specs.declared.refusal.Refusal.TheVariants.{Unknown}
use Rattle.vc_expression.specs.Grammar.ExprText.{Object as BaseAndSteps}
use Rattle.vc_format.specs.Git.{id_of_bytes, bytes_of_id, commit_text}
use Rattle.vc_object.proofs.Names.{name_length, name_bytes, byte_of}
use Rattle.vc_model.specs.Object.{Id, zero_id, Object, Objects, IsLine}
use Rattle.vc_model.specs.Object.Kind.{Commit}
use Rattle.vc_model.specs.Refs.{branch, tracking}
use Rattle.vc_model.specs.Repository.{Repository}
use Rattle.vc_model.specs.Shared.{head_value}
use Rattle.vc_model.proofs.Commits.{all_holds}
use Rattle.vc_model.proofs.Maps.{same_key, insert_same, insert_other, bytes_same}
use Rattle.vc_values.specs.Faults.{FaultGives}
use Rattle.vc_rules.specs.Git.{git, stored_of}
use Rattle.vc_values.specs.Values.{DenotesAt}
use Rattle.vc_runs.specs.Names.{path, plain_file, content, first_file, first_file_id, first_entries, first_tree, first_tree_id, author, message, first_commit, first_commit_id}
use Rattle.vc_values.proofs.GitLaws.{git_rules}
use Rattle.vc_model.specs.Rules.{Rules}
use Rattle.vc_model.specs.Wire.{Wire}
use Rattle.vc_runs.specs.Witness.{main}
use Rattle.vc_runs.proofs.Names.{names_are_known}
use Rattle.vc_runs.proofs.Stores.{Facts, index_with}

abbrev b : Id
b = git.name_of first_file

abbrev t : Id
t = git.name_of first_tree

abbrev x : Id
x = git.name_of first_commit

-- ---- the texts

without_by : (text : List ℕ) → list_all (λ b. not (b == 10)) text ≡ true → Without 10 text
without_by [] e = tt
without_by (b ∷ bs) e =
    let parts = and_parts (not (b == 10)) (list_all (λ b. not (b == 10)) bs) e in
    ((λ is. let bad : false ≡ true = subst (λ c. not (c == 10) ≡ true) is parts.0 in cc), without_by bs parts.1)

author_without : Without 10 author
author_without = without_by author refl

author_line : IsLine author
author_line c = all_holds (λ b. b ≢ 10) author 10 author_without c refl

tree_is_id : IsId (id_of_bytes first_tree_id)
tree_is_id = subst (λ y. IsId (id_of_bytes y)) names_are_known.1 (record { sized = name_length _; bytes = λ i. byte_of _ (name_bytes _) i })

abbrev text : CommitText
text = commit_text first_tree_id [] author author message

commit_size : length first_commit.body ≡ 98
unfolding encode_with
commit_size = refl

commit_formed : FaultGives first_commit None
commit_formed = record {
  grammar = (text, record { tree = tree_is_id; parents = tt; author = author_without; committer = author_without }, refl);
  size = omega (arith, commit_size);
}

file_formed : FaultGives first_file None
file_formed = record { grammar = tt; size = omega arith }

-- ---- the objects

made : first_commit ≡ record { kind = Commit; body = git.commit_body t [] author author message }
made = ap (λ y. record { kind = Commit; body = git.commit_body y [] author author message }) (sym names_are_known.1)

named : (y : Id) → Contains (t ∷ []) y → (o : Object) × (git.name_of o ≡ y)
named y c = (first_tree, sym (all_holds (λ z. z ≡ t) (t ∷ []) y (refl, tt) c))

-- ids of other first bytes are others
other_names : (m n : ℕ) (y z v w : Id) → y ≡ v → z ≡ w → get_or v 0 0 ≡ m → get_or w 0 0 ≡ n → m ≢ n → y ≢ z
other_names m n y z v w yv zw vm wn apart e = apart (sym vm ∙ (ap (λ (ys : List ℕ). get_or ys 0 0) (sym yv ∙ (e ∙ zw)) ∙ wn))

file_tree : b ≢ t
file_tree = other_names 206 9 b t first_file_id first_tree_id names_are_known.0 names_are_known.1 refl refl (λ e. omega (arith, e))

file_commit : b ≢ x
file_commit = other_names 206 205 b x first_file_id first_commit_id names_are_known.0 names_are_known.2 refl refl (λ e. omega (arith, e))

tree_commit : t ≢ x
tree_commit = other_names 9 205 t x first_tree_id first_commit_id names_are_known.1 names_are_known.2 refl refl (λ e. omega (arith, e))

not_zero : x ≢ zero_id
not_zero = other_names 205 0 x zero_id first_commit_id zero_id names_are_known.2 refl refl refl (λ e. omega (arith, e))

-- ---- names of refs

legal : IsTrue (git.is_legal (branch main))
unfolding first_broken_rule is_utf8 chars lib.Utf8.encode
legal = refl

fits : IsTrue (git.is_legal (tracking main))
unfolding first_broken_rule is_utf8 chars lib.Utf8.encode
fits = refl

head_legal : is_ref_name (codes "refs/HEAD") ≡ true
unfolding first_broken_rule
head_legal = refl

head_text : IsUtf8 (codes "HEAD")
unfolding lib.Utf8.encode
head_text = (codes "HEAD", (refl, refl))

head_is : (r : Repository) (y : Id) → head_value r ≡ Some y → DenotesAt r (codes "HEAD") (Ok y)
head_is r y e = (
  BaseAndSteps (record { base = codes "HEAD"; steps = [] }),
  ([], inr (head_text, legal_from_is_ref_name (codes "refs/HEAD") head_legal), refl, refl),
  (Ok (id_of_bytes y), ap (λ v. or_refusal (option_map id_of_bytes v) Unknown) (sym e), refl),
)

head_is_too : (r : Repository) (y : Id) → head_value r ≡ Some y → DenotesAt r (codes "@") (Ok y)
head_is_too r y e = (
  BaseAndSteps (record { base = codes "@"; steps = [] }),
  ([], inl refl, refl, refl),
  (Ok (id_of_bytes y), ap (λ v. or_refusal (option_map id_of_bytes v) Unknown) (sym e), refl),
)

-- ---- the file in the index

name_legal : IsName path
name_legal = record {
  some = λ e. let h : ◌≡◌ {A = ℕ} 1 0 = ap length e in omega arith;
  no_slash = ((λ e. omega arith), tt);
  no_nul = ((λ e. omega arith), tt);
  not_dot = λ e. let h : ◌≡◌ {A = ℕ} 97 46 = ap (λ (ys : List ℕ). get_or ys 0 0) e in omega arith;
  not_dots = λ e. let h : ◌≡◌ {A = ℕ} 1 2 = ap length e in omega arith;
  not_git = λ e. let h : ◌≡◌ {A = ℕ} 1 4 = ap length e in omega arith;
}

path_legal : IsPath path
path_legal = record { names = (name_legal, tt); short = omega arith }

abbrev entry : IndexEntry
entry = index_entry modes.File (id_of_bytes first_file_id)

abbrev files : IndexMap
files = insert empty path entry

file_there : get files path ≡ Some entry
file_there = insert_same nat_list_cmp_total bytes_same empty path entry

is_index : IsIndex files
is_index = insert-IsIndex empty path entry empty-IsIndex (record { legal = path_legal; mode = λ e. absurd (cc); id = refl }) (λ c. no_some (get empty c.0) (get-empty (slice_cmp nat_cmp) c.0) c.1)

shows_index : ShowsIndex (index_with git path content) files
shows_index p = go (same_key nat_list_cmp_total bytes_same p path)
  where
    go : (p ≡ path) ⊎ (p ≢ path) → get (index_with git path content) p ≡ option_map machine_entry (get files p)
    go (inl e) =
        ap (get (index_with git path content)) e ∙ (insert_same nat_list_cmp_total bytes_same empty path (record { mode = plain_file; id = b })
        ∙ (ap (λ y. Some (record { mode = plain_file; id = y })) names_are_known.0 ∙ (ap (option_map machine_entry) (sym file_there) ∙ ap (λ q. option_map machine_entry (get files q)) (sym e))))
    go (inr n) =
        insert_other nat_list_cmp_total bytes_same empty path (record { mode = plain_file; id = b }) p n
        ∙ (get-empty (slice_cmp nat_cmp) p ∙ ap (option_map machine_entry) (sym (insert_other nat_list_cmp_total bytes_same empty path entry p n ∙ get-empty (slice_cmp nat_cmp) p)))

-- ---- its tree

entries_legal : AllByRecursion IsEntry first_entries
entries_legal = (record { name = name_legal; id = refl }, tt)

tree_links : git.links first_tree ≡ b ∷ []
tree_links = ap (λ (es : List Entry). map bytes_of_id (entry_links es)) (entries_again first_entries entries_legal) ∙ ap (λ (y : Id). y ∷ []) (sym names_are_known.0)

-- a path of one letter is in no folder
in_no_folder : (name rest : List ℕ) → path ≡ name ++ 47 ∷ rest → ⊥
in_no_folder [] rest e = let h : ◌≡◌ {A = ℕ} 97 47 = ap (λ (ys : List ℕ). get_or ys 0 0) e in omega arith
in_no_folder (c ∷ cs) rest e = let h : 1 ≡ suc (length (cs ++ 47 ∷ rest)) = ap length e in omega (arith, length-append cs (47 ∷ rest))

names_all : NamesAll files [] first_entries
names_all p name some first = elim (got empty path p entry) [
  | inl is ↦ elim (first.1) [
    | inl same ↦ inl (sym is ∙ same)
    | inr above ↦ absurd (in_no_folder name above.0 (sym is ∙ above.1))
  ]
  | inr was ↦ absurd (no_some (get files p) (was ∙ get-empty (slice_cmp nat_cmp) p) some)
]

abbrev trees : Objects
trees = insert empty t first_tree

holds : HoldsTrees trees (first_entries ∷ [])
unfolding with_object
holds y = go (bytes_eq y t) refl
  where
    go : (c : Bool) → bytes_eq y t ≡ c → option_map stored_of (get trees y) ≡ cond c (Some (tree_object first_entries)) None
    go true e = ap (λ z. option_map stored_of (get trees z)) ((bytes_eq-Decides y t).0 e) ∙ ap (option_map stored_of) (insert_same nat_list_cmp_total bytes_same empty t first_tree)
    go false e =
        let other : y ≢ t = λ same. let yes = (bytes_eq-Decides y t).1 same in absurd (let bad : true ≡ false = sym yes ∙ e in cc) in
        ap (option_map stored_of) (insert_other nat_list_cmp_total bytes_same empty t first_tree y other ∙ get-empty (slice_cmp nat_cmp) y)

tree_size : length (spelling first_entries) ≡ 29
tree_size = refl

trees_of_file : TreesGive (index_with git path content) (Ok (trees, t))
trees_of_file = (
  files,
  first_entries ∷ [],
  first_entries,
  record {
    sound = is_index;
    shows = shows_index;
    listed = record {
      levels = 1;
      is = record {
        below = [];
        is = refl;
        tree = record { legal = entries_legal; order = (tt, tt) };
        names = names_all;
        joined = ([], [], refl, inl ((λ e. absurd (cc)), file_there, refl), refl);
      };
    };
  },
  (omega (arith, tree_size), tt),
  holds,
  refl,
)

-- ---- all of it

-- of any wire that has these rules
pub facts : (wire : Wire git) → wire.rules ≡ git_rules → Facts git wire path content first_tree first_commit author message
facts wire same = record {
  path_legal = back (λ (r : Rules git). r.is_path path) path_legal;
  file_formed = back (λ (r : Rules git). r.fault first_file None) file_formed;
  trees = back (λ (r : Rules git). r.trees_of (index_with git path content) (Ok (trees, t))) trees_of_file;
  commit_formed = back (λ (r : Rules git). r.fault first_commit None) commit_formed;
  made = made;
  line = author_line;
  tree_links = tree_links;
  links = ap git.links made ∙ git.commit_links t [] author author message named author_line author_line;
  parents = ap git.parents made ∙ git.commit_parents t [] author author message named author_line author_line;
  file_tree = file_tree;
  file_commit = file_commit;
  tree_commit = tree_commit;
  not_zero = not_zero;
  legal = legal;
  fits = fits;
  head = λ r e. back (λ (rules : Rules git). rules.denotes r (codes "HEAD") (Ok x)) (head_is r x e);
  head_too = λ r e. back (λ (rules : Rules git). rules.denotes r (codes "@") (Ok x)) (head_is_too r x e);
}
  where
    back : (P : Rules git → Type 0) → P git_rules → P wire.rules
    back P p = subst P (sym same) p
