-- Three objects, a file, a tree of it and a commit of that without parents: stores of them, and what is reached in these.
use Rattle.std.proofs.Common.{◌≡◌, ◌≢◌, ℕ, List, ◌∷◌, Option, Some, None, Ok, ◌⊎◌, inl, inr, refl, sym, ap, ◌∙◌, subst, nat_cmp, arith, Contains, unwrap_or, []}
use Rattle.std.specs.Prelude.{IsTrue, codes}
use Rattle.std.specs.FinMap.{get, insert, empty, get-empty}
use Rattle.std.specs.Option.{option_or}
use Rattle.std.specs.List.{AllByRecursion}
use Rattle.std.specs.Cmp.Lexicographic.{slice_cmp, nat_list_cmp_total}
use Rattle.vc_model.specs.Object.{Id, zero_id, Object, blob, Format, Objects, Lookup, IsLine, stored, over}
use Rattle.vc_model.specs.Object.Kind.{Commit}
use Rattle.vc_model.specs.Reach.{Reaches, Links, IsClosed, HasHistory}
use Rattle.vc_model.specs.Refs.{branch, tracking}
use Rattle.vc_model.specs.Repository.{Repository, Index, AllAdded}
use Rattle.vc_model.specs.Shared.{head_value}
use Rattle.vc_model.specs.Clone.{with_object}
use Rattle.vc_model.specs.Wire.{Wire}
use Rattle.vc_model.proofs.Maps.{insert_cases, insert_same, insert_other, bytes_same, none_in_empty, same_key, none_added}
use Rattle.vc_runs.specs.Names.{plain_file}
use Rattle.vc_runs.specs.Witness.{main}
use Rattle.vc_runs.proofs.Graphs.{closed_step, history_step}

-- the index of one file
abbrev pub index_with : Format → (path content : List ℕ) → Index
index_with fmt path content = insert empty path (record { mode = plain_file; id = fmt.name_of (blob content) })

-- what is needed of a format, of rules and of three objects, so that the run is one
pub record Facts (fmt : Format) (wire : Wire fmt) (path content : List ℕ) (tree commit : Object) (author message : List ℕ) : Type 0 where
  pub path_legal : wire.rules.is_path path
  pub file_formed : wire.rules.fault (blob content) None
  pub trees : wire.rules.trees_of (index_with fmt path content) (Ok (insert empty (fmt.name_of tree) tree, fmt.name_of tree))
  pub commit_formed : wire.rules.fault commit None
  pub made : commit ≡ record { kind = Commit; body = fmt.commit_body (fmt.name_of tree) [] author author message }
  pub line : IsLine author
  pub tree_links : fmt.links tree ≡ fmt.name_of (blob content) ∷ []
  pub links : fmt.links commit ≡ fmt.name_of tree ∷ []
  pub parents : fmt.parents commit ≡ []
  pub file_tree : fmt.name_of (blob content) ≢ fmt.name_of tree
  pub file_commit : fmt.name_of (blob content) ≢ fmt.name_of commit
  pub tree_commit : fmt.name_of tree ≢ fmt.name_of commit
  pub not_zero : fmt.name_of commit ≢ zero_id
  pub legal : IsTrue (fmt.is_legal (branch main))
  pub fits : IsTrue (fmt.is_legal (tracking main))
  pub head : (r : Repository) → head_value r ≡ Some (fmt.name_of commit) → wire.rules.denotes r (codes "HEAD") (Ok (fmt.name_of commit))
  pub head_too : (r : Repository) → head_value r ≡ Some (fmt.name_of commit) → wire.rules.denotes r (codes "@") (Ok (fmt.name_of commit))

-- a format, a wire and three objects of which that holds
pub record Setting : Type 1 where
  pub fmt : Format
  pub wire : Wire fmt
  pub path : List ℕ
  pub content : List ℕ
  pub tree : Object
  pub commit : Object
  pub author : List ℕ
  pub message : List ℕ
  pub facts : Facts fmt wire path content tree commit author message

module _ (here : Setting) where
  abbrev fmt : Format
  fmt = here.fmt

  abbrev f : Facts fmt here.wire here.path here.content here.tree here.commit here.author here.message
  f = here.facts

  abbrev file : Object
  file = blob here.content

  abbrev tree : Object
  tree = here.tree

  abbrev commit : Object
  commit = here.commit

  abbrev b : Id
  b = fmt.name_of file

  abbrev t : Id
  t = fmt.name_of tree

  abbrev x : Id
  x = fmt.name_of commit

  abbrev pub IsAny : Object → Type 0
  IsAny o = (o ≡ file) ⊎ ((o ≡ tree) ⊎ (o ≡ commit))

  -- ---- stores: the file, the trees of its index, what the commit makes, and all

  abbrev pub staged : Objects
  staged = insert empty b file

  abbrev pub trees : Objects
  trees = insert empty t tree

  abbrev pub made : Objects
  made = with_object trees x commit

  abbrev pub all : Objects
  all = insert (insert staged t tree) x commit

  set : (s : Objects) (y : Id) (o : Object) → get (insert s y o) y ≡ Some o
  set s y o = insert_same nat_list_cmp_total bytes_same s y o

  other : (s : Objects) (y : Id) (o : Object) (z : Id) → z ≢ y → get (insert s y o) z ≡ get s z
  other s y o z n = insert_other nat_list_cmp_total bytes_same s y o z n

  none : (y : Id) → get (empty {X = Object} {R = slice_cmp nat_cmp}) y ≡ None
  none y = get-empty (slice_cmp nat_cmp) y

  abbrev one : Id → Object → Objects
  one z q = insert empty z q

  one_alone : (z : Id) (q : Object) (y : Id) (o : Object) → get (one z q) y ≡ Some o → o ≡ q
  one_alone z q y o g = elim (insert_cases nat_list_cmp_total bytes_same empty z q y o g) [ inl is ↦ is.1 | inr was ↦ absurd (none_in_empty (slice_cmp nat_cmp) y o was) ]

  pub staged_any : (y : Id) (o : Object) → get staged y ≡ Some o → IsAny o
  staged_any y o g = inl (one_alone b file y o g)

  pub trees_any : (y : Id) (o : Object) → get trees y ≡ Some o → IsAny o
  trees_any y o g = inr (inl (one_alone t tree y o g))

  commit_is : unwrap_or (get trees x) commit ≡ commit
  commit_is = ap (λ a. unwrap_or a commit) (other empty t tree x (λ e. f.tree_commit (sym e)) ∙ none x)

  staged_none : (y : Id) → y ≢ b → get staged y ≡ None
  staged_none y n = other empty b file y n ∙ none y

  or_first : (a c : Option Object) → a ≡ None → option_or a c ≡ c
  or_first None c e = refl
  or_first (Some o) c e = absurd (cc)

  -- all is what was staged and what the commit makes
  pub made_added : AllAdded staged made all
  made_added = record { each = λ y. go y (same_key nat_list_cmp_total bytes_same y x) (same_key nat_list_cmp_total bytes_same y t) }
    where
      go : (y : Id) → (y ≡ x) ⊎ (y ≢ x) → (y ≡ t) ⊎ (y ≢ t) → get all y ≡ option_or (get staged y) (get made y)
      go y (inl e) h =
          let right : option_or (get staged x) (get made x) ≡ Some commit = or_first (get staged x) (get made x) (staged_none x (λ i. f.file_commit (sym i))) ∙ (set trees x (unwrap_or (get trees x) commit) ∙ ap Some commit_is) in
          ap (get all) e ∙ (set (insert staged t tree) x commit ∙ (sym right ∙ ap (λ z. option_or (get staged z) (get made z)) (sym e)))
      go y (inr n) (inl e) =
          let right : option_or (get staged t) (get made t) ≡ Some tree = or_first (get staged t) (get made t) (staged_none t (λ i. f.file_tree (sym i))) ∙ (other trees x (unwrap_or (get trees x) commit) t f.tree_commit ∙ set empty t tree) in
          ap (get all) e ∙ (other (insert staged t tree) x commit t f.tree_commit ∙ (set staged t tree ∙ (sym right ∙ ap (λ z. option_or (get staged z) (get made z)) (sym e))))
      go y (inr n) (inr m) =
          let left : get all y ≡ get staged y = other (insert staged t tree) x commit y n ∙ other staged t tree y m in
          let right : get made y ≡ get (empty {X = Object} {R = slice_cmp nat_cmp}) y = other trees x (unwrap_or (get trees x) commit) y n ∙ other empty t tree y m in
          left ∙ ((none_added staged).each y ∙ ap (option_or (get staged y)) (sym right))

  -- the three are found
  pub record Finds (at : Lookup) : Type 0 where
    pub file : at b ≡ Some file
    pub tree : at t ≡ Some tree
    pub commit : at x ≡ Some commit

  pub found : Finds (stored all)
  found = record {
    file = other (insert staged t tree) x commit b f.file_commit ∙ (other staged t tree b f.file_tree ∙ set empty b file);
    tree = other (insert staged t tree) x commit t f.tree_commit ∙ set staged t tree;
    commit = set (insert staged t tree) x commit;
  }

  -- so they are where all is added to nothing
  pub found_over : Finds (over empty all)
  found_over = record { file = more b file found.file; tree = more t tree found.tree; commit = more x commit found.commit }
    where
      more : (y : Id) (o : Object) → get all y ≡ Some o → over empty all y ≡ Some o
      more y o g = ap (λ a. option_or a (get all y)) (none y) ∙ g

  abbrev IsOneName : Id → Type 0
  IsOneName y = (y ≡ b) ⊎ ((y ≡ t) ⊎ (y ≡ x))

  all_cases : (y : Id) (o : Object) → get all y ≡ Some o → IsOneName y × IsAny o
  all_cases y o g = elim (insert_cases nat_list_cmp_total bytes_same (insert staged t tree) x commit y o g) [
    | inl is ↦ (inr (inr is.0), inr (inr is.1))
    | inr was ↦ elim (insert_cases nat_list_cmp_total bytes_same staged t tree y o was) [
      | inl is ↦ (inr (inl is.0), inr (inl is.1))
      | inr was ↦ elim (insert_cases nat_list_cmp_total bytes_same empty b file y o was) [
        | inl is ↦ (inl is.0, inl is.1)
        | inr was ↦ absurd (none_in_empty (slice_cmp nat_cmp) y o was)
      ]
    ]
  ]

  pub all_any : (y : Id) (o : Object) → get all y ≡ Some o → IsAny o
  all_any y o g = (all_cases y o g).1

  -- ---- graphs

  is_commit : commit.kind ≡ Commit
  is_commit = ap (λ (o : Object). o.kind) f.made

  module _ (at : Lookup) (finds : Finds at) where
    file_closed : IsClosed fmt at b
    file_closed = closed_step fmt at b file finds.file (subst (AllByRecursion (IsClosed fmt at)) (sym (fmt.blobs file refl)) tt)

    tree_closed : IsClosed fmt at t
    tree_closed = closed_step fmt at t tree finds.tree (subst (AllByRecursion (IsClosed fmt at)) (sym f.tree_links) (file_closed, tt))

    pub closed : IsClosed fmt at x
    closed = closed_step fmt at x commit finds.commit (subst (AllByRecursion (IsClosed fmt at)) (sym f.links) (tree_closed, tt))

    pub history : HasHistory fmt at x
    history = history_step fmt at x commit finds.commit is_commit (subst (AllByRecursion (HasHistory fmt at)) (sym f.parents) tt)

    to_tree : Links fmt at x t
    to_tree = record { object = commit; found = finds.commit; link = subst (λ xs. Contains xs t) (sym f.links) (0, omega arith, refl) }

    to_file : Links fmt at t b
    to_file = record { object = tree; found = finds.tree; link = subst (λ xs. Contains xs b) (sym f.tree_links) (0, omega arith, refl) }

    -- the commit reaches all
    reached : (y : Id) → IsOneName y → Reaches (Links fmt at) x y
    reached y (inl e) = (t ∷ b ∷ [], (to_tree, (to_file, sym e)))
    reached y (inr (inl e)) = (t ∷ [], (to_tree, sym e))
    reached y (inr (inr e)) = ([], sym e)

    pub all_reached : (y : Id) (o : Object) → get all y ≡ Some o → Reaches (Links fmt at) x y
    all_reached y o g = reached y (all_cases y o g).0

  -- ---- no two of them have one name

  pub one_each : (o p : Object) → IsAny o → IsAny p → fmt.name_of o ≡ fmt.name_of p → o ≡ p
  one_each o p (inl i) (inl j) e = i ∙ sym j
  one_each o p (inl i) (inr (inl j)) e = absurd (f.file_tree (sym (ap fmt.name_of i) ∙ e ∙ ap fmt.name_of j))
  one_each o p (inl i) (inr (inr j)) e = absurd (f.file_commit (sym (ap fmt.name_of i) ∙ e ∙ ap fmt.name_of j))
  one_each o p (inr (inl i)) (inl j) e = absurd (f.file_tree (sym (ap fmt.name_of j) ∙ sym e ∙ ap fmt.name_of i))
  one_each o p (inr (inl i)) (inr (inl j)) e = i ∙ sym j
  one_each o p (inr (inl i)) (inr (inr j)) e = absurd (f.tree_commit (sym (ap fmt.name_of i) ∙ e ∙ ap fmt.name_of j))
  one_each o p (inr (inr i)) (inl j) e = absurd (f.file_commit (sym (ap fmt.name_of j) ∙ sym e ∙ ap fmt.name_of i))
  one_each o p (inr (inr i)) (inr (inl j)) e = absurd (f.tree_commit (sym (ap fmt.name_of j) ∙ sym e ∙ ap fmt.name_of i))
  one_each o p (inr (inr i)) (inr (inr j)) e = i ∙ sym j
