-- The machine's objects of the trees of an index, put one after another: for a commit.
use Rattle.std.proofs.Common.{◌≡◌, ◌⊎◌, inl, inr, Bool, true, false, cond, List, [], ◌∷◌, ◌++◌, map, Option, Some, None, refl, sym, ap, ◌∙◌}
use Rattle.std.specs.Prelude.{option_map, unwrap_or, bytes_eq}
use Rattle.std.specs.FinMap.{get, empty, get-empty}
use Rattle.std.specs.Option.{option_or}
use Rattle.std.specs.Ordering.{nat_cmp}
use Rattle.std.specs.Cmp.Lexicographic.{slice_cmp}
use Rattle.std.proofs.lemmas.Slice.Eq.{bytes_eq-Decides}
use Rattle.vc_format.specs.Git.{id_of_bytes}
use Rattle.vc_index.specs.WrittenTrees.{tree_object}
use Rattle.vc_model.specs.Clone.{with_object as added}
use Rattle.vc_model.specs.Object.{Object, Objects, Id}
use Rattle.vc_model.specs.Repository.{Repository, AllAdded, SomeAdded, with_objects as with_all}
use Rattle.vc_object.specs.Object.{object_name}
use Rattle.vc_object.specs.ObjectMap.{ObjectMap}
use Rattle.vc_object.specs.Tree.{Entry, spelling}
use Rattle.vc_object.specs.declared.kind.Kind.TheVariants as kinds
use Rattle.vc_object_map.specs.Store.{with_object, with_objects}
use Rattle.vc_rules.specs.Git.{machine_object, stored_of, no_objects}
use Rattle.vc_values.specs.Trees.{HoldsTrees}
use Rattle.vc_local.specs.Machine.{Spells}
use Rattle.vc_local.specs.Shown.{Shown, with_objects_shown}
use Rattle.vc_rules.proofs.MapLemmas.{get-put}
use Rattle.vc_local.proofs.WriteLemmas.{added_shows}

abbrev tree_name : List Entry → Id
tree_name es = (object_name kinds.Tree (spelling es)).0

abbrev tree_of : List Entry → Object
tree_of es = machine_object kinds.Tree (spelling es)

-- the objects, with these trees too, the first of them first
pub with_trees : Objects → List (List Entry) → Objects
with_trees s [] = s
with_trees s (es ∷ trees) = with_trees (added s (tree_name es) (tree_of es)) trees

Shows : ObjectMap → Objects → Type 0
Shows o s = (x : Id) → o (id_of_bytes x) ≡ option_map stored_of (get s x)

trees_show : (trees : List (List Entry)) (o : ObjectMap) (s : Objects) → Shows o s → Shows (with_objects o (map tree_object trees)) (with_trees s trees)
unfolding with_trees Shows
trees_show [] o s shows = shows
trees_show (es ∷ trees) o s shows =
    trees_show trees (with_object o (object_name kinds.Tree (spelling es)) (tree_object es)) (added s (tree_name es) (tree_of es)) (λ x. added_shows o s shows (tree_name es) (tree_of es) x)

pub with_trees_show : (trees : List (List Entry)) (o : ObjectMap) (s : Objects) → ((x : Id) → o (id_of_bytes x) ≡ option_map stored_of (get s x))
    → (x : Id) → with_objects o (map tree_object trees) (id_of_bytes x) ≡ option_map stored_of (get (with_trees s trees) x)
unfolding Shows
with_trees_show trees o s shows = trees_show trees o s shows

-- the trees alone
pub trees_held : (trees : List (List Entry)) → HoldsTrees (with_trees empty trees) trees
trees_held trees x = sym (with_trees_show trees no_objects empty (λ y. ap (option_map stored_of) (sym (get-empty (slice_cmp nat_cmp) y))) x)

-- a repository with other objects
pub spells_objects : (s : Shown) (r : Repository) (o : ObjectMap) (u : Objects) → Spells s r → ((x : Id) → o (id_of_bytes x) ≡ option_map stored_of (get u x)) → Spells (with_objects_shown s o) (with_all r u)
spells_objects s r o u p shows = record {
  objects = shows;
  refs = p.refs;
  head = p.head;
  head_shown = p.head_shown;
  head_is = p.head_is;
  map = p.map;
  map_sound = p.map_sound;
  map_shown = p.map_shown;
  index = p.index;
}

-- ---- what is added

-- one more on either side
pub added_over : (s c all : Objects) (k : Id) (o : Object) → AllAdded s c all → AllAdded s (added c k o) (added all k o)
added_over s c all k o a = record { each = λ x. get-put all k x (unwrap_or (get all k) o) ∙ by x (bytes_eq x k) refl ∙ ap (option_or (get s x)) (sym (get-put c k x (unwrap_or (get c k) o))) }
  where
    here : (f g h : Option Object) → h ≡ option_or f g → Some (unwrap_or h o) ≡ option_or f (Some (unwrap_or g o))
    here None None h e = ap (λ h. Some (unwrap_or h o)) e
    here None (Some q) h e = ap (λ h. Some (unwrap_or h o)) e
    here (Some p) g h e = ap (λ h. Some (unwrap_or h o)) e

    by : (x : Id) (b : Bool) → bytes_eq x k ≡ b → cond b (Some (unwrap_or (get all k) o)) (get all x) ≡ option_or (get s x) (cond b (Some (unwrap_or (get c k) o)) (get c x))
    by x true e =
        let same : x ≡ k = (bytes_eq-Decides x k).0 e in
        here (get s k) (get c k) (get all k) (a.each k) ∙ ap (λ (y : Id). option_or (get s y) (Some (unwrap_or (get c k) o))) (sym same)
    by x false e = a.each x

pub trees_over : (trees : List (List Entry)) (s c all : Objects) → AllAdded s c all → AllAdded s (with_trees c trees) (with_trees all trees)
unfolding with_trees
trees_over [] s c all a = a
trees_over (es ∷ trees) s c all a = trees_over trees s (added c (tree_name es) (tree_of es)) (added all (tree_name es) (tree_of es)) (added_over s c all (tree_name es) (tree_of es) a)

-- what the first has, the second has
pub record Keeps (c d : Objects) : Type 0 where
  pub kept : (x : Id) (o : Object) → get c x ≡ Some o → get d x ≡ Some o

pub keeps_added : (c d : Objects) (k : Id) (o : Object) → Keeps c d → Keeps c (added d k o)
keeps_added c d k o keeps = record { kept = λ x p found. get-put d k x (unwrap_or (get d k) o) ∙ by x p (keeps.kept x p found) (bytes_eq x k) refl }
  where
    by : (x : Id) (p : Object) → get d x ≡ Some p → (b : Bool) → bytes_eq x k ≡ b → cond b (Some (unwrap_or (get d k) o)) (get d x) ≡ Some p
    by x p found true e = let same : x ≡ k = (bytes_eq-Decides x k).0 e in ap (λ (f : Option Object). Some (unwrap_or f o)) (ap (get d) (sym same) ∙ found)
    by x p found false e = found

pub keeps_trees : (trees : List (List Entry)) (c d : Objects) → Keeps c d → Keeps c (with_trees d trees)
unfolding with_trees
keeps_trees [] c d keeps = keeps
keeps_trees (es ∷ trees) c d keeps = keeps_trees trees c (added d (tree_name es) (tree_of es)) (keeps_added c d (tree_name es) (tree_of es) keeps)

pub with_trees_append : (front rest : List (List Entry)) (s : Objects) → with_trees s (front ++ rest) ≡ with_trees (with_trees s front) rest
unfolding with_trees
with_trees_append [] rest s = refl
with_trees_append (es ∷ front) rest s = with_trees_append front rest (added s (tree_name es) (tree_of es))

-- all of some is some of more
pub some_of_more : (s c d all : Objects) → AllAdded s c all → Keeps c d → SomeAdded s d all
some_of_more s c d all a keeps = record { each = λ x. by (get s x) (get c x) (get d x) (get all x) (a.each x) (keeps.kept x) }
  where
    by : (f g h k : Option Object) → k ≡ option_or f g → ((o : Object) → g ≡ Some o → h ≡ Some o) → (k ≡ f) ⊎ (k ≡ option_or f h)
    by (Some p) g h k e keep = inl e
    by None None h k e keep = inl e
    by None (Some o) h k e keep = inr (e ∙ sym (keep o refl))
