-- The race of two pushes is a run.
use Rattle.std.proofs.Common.{◌≡◌, ◌≢◌, ℕ, ◌<◌, false, List, ◌∷◌, Option, Some, None, Ok, Err, ◌⊎◌, inl, inr, refl, sym, ap, ◌∙◌, subst, nat_cmp, length, get_or, arith, Contains, unwrap_or, []}
use Rattle.std.specs.FinMap.{FinMap, get, insert, empty, get-empty, nat_cmp-IsAntisymmetric}
use Rattle.std.specs.Cmp.{nat_cmp_total}
use Rattle.std.specs.Option.{option_or}
use Rattle.std.specs.List.{AllByRecursion}
use Rattle.std.specs.Cmp.Lexicographic.{slice_cmp, nat_list_cmp_total}
use Rattle.vc_model.specs.Object.{Id, zero_id, Object, Format, Objects, Lookup, stored, over}
use Rattle.vc_model.specs.Object.Kind.{Commit}
use Rattle.vc_model.specs.Reach.{Path, Reaches, Links, HasParent, IsClosed, HasHistory, IsAncestor}
use Rattle.vc_model.specs.Refs.{RefName, Refs, branch, tracking, Conflicts, IsFree}
use Rattle.vc_model.specs.Repository.{AllAdded, no_effect, only_changes}
use Rattle.vc_model.specs.Repository.Change.{SetRefs}
use Rattle.vc_model.specs.Push.{Slots, OpenPush}
use Rattle.vc_model.specs.Push.Verdict.{Passing, Accepted, Refused}
use Rattle.vc_model.specs.Push.Reason.{Stale}
use Rattle.vc_model.specs.Node.{IsDifference}
use Rattle.vc_model.specs.Node.Answer.{Did}
use Rattle.vc_model.specs.Node.Reply.{Sends, Opened, Passed, MigratedAll, Updated, Reported}
use Rattle.vc_model.specs.Shared.{SharedStep}
use Rattle.vc_model.specs.Shared.SharedEvent.{Arrives, StepSlot}
use Rattle.vc_model.specs.Shared.SharedStep.{works}
use Rattle.vc_model.specs.Shared.UpdatesPush.{singly}
use Rattle.vc_model.specs.Clone.{CloneNode, CloneStep, IsItemId, IsTrackingValue, quietly, sending}
use Rattle.vc_model.specs.Clone.Awaited.{Nothing}
use Rattle.vc_model.specs.Clone.Task.{StartPush}
use Rattle.vc_model.specs.Clone.CloneEvent.{Commanded, Gets}
use Rattle.vc_model.specs.Clone.CloneStep.{works as clone_works}
use Rattle.vc_model.specs.World.Step.{at_shared, at_clone}
use Rattle.vc_model.specs.Run.{Run, world_after}
use Rattle.vc_model.specs.Small.{small_format}
use Rattle.vc_model.specs.Race
use Rattle.vc_model.proofs.Maps.{insert_cases, insert_same, insert_other, remove_other, bytes_same, none_in_empty, same_key, none_added, or_none}
use Rattle.vc_model.proofs.Commits.{all_holds, branch_tag_apart}
use Rattle.vc_model.proofs.Tracked.{value_at_clone}
use Rattle.vc_model.proofs.Apart.{no_conflict}

abbrev fmt : Format
fmt = small_format

-- ---- steps of graphs

closed_step : (at : Lookup) (x : Id) (o : Object) → at x ≡ Some o → AllByRecursion (IsClosed fmt at) (fmt.links o) → IsClosed fmt at x
closed_step at x o is all = record { there = λ y p. go y p.0 p.1 }
  where
    go : (y : Id) (zs : List Id) → Path (Links fmt at) zs x y → (q : Object) × (at y ≡ Some q)
    go y [] p = (o, ap at (sym p) ∙ is)
    go y (z ∷ zs) p =
        let same : p.0.object ≡ o = let f = p.0.found in cc in
        (all_holds (IsClosed fmt at) (fmt.links o) z all (subst (λ (q : Object). Contains (fmt.links q) z) same p.0.link)).there y (zs, p.1)

history_step : (at : Lookup) (x : Id) (o : Object) → at x ≡ Some o → o.kind ≡ Commit → AllByRecursion (HasHistory fmt at) (fmt.parents o) → HasHistory fmt at x
history_step at x o is kind all = record { commits = λ y p. go y p.0 p.1 }
  where
    go : (y : Id) (zs : List Id) → Path (HasParent fmt at) zs x y → (q : Object) × (at y ≡ Some q) × (q.kind ≡ Commit)
    go y [] p = (o, ap at (sym p) ∙ is, kind)
    go y (z ∷ zs) p =
        let same : p.0.object ≡ o = let f = p.0.found in cc in
        (all_holds (HasHistory fmt at) (fmt.parents o) z all (subst (λ (q : Object). Contains (fmt.parents q) z) same p.0.parent)).commits y (zs, p.1)

-- ---- the ids are different

tree_first : Race.tree_id ≢ Race.first_id
tree_first e = let h : ◌≡◌ {A = ℕ} 1 5 = ap length e in omega arith

first_next : (n : ℕ) → Race.first_id ≢ Race.next_id n
first_next n e = let h : ◌≡◌ {A = ℕ} 5 11 = ap length e in omega arith

tree_next : (n : ℕ) → Race.tree_id ≢ Race.next_id n
tree_next n e = let h : ◌≡◌ {A = ℕ} 1 11 = ap length e in omega arith

next_apart : Race.next_id 3 ≢ Race.next_id 2
next_apart e = let h : ◌≡◌ {A = ℕ} 4 3 = ap (λ (xs : List ℕ). get_or xs 1 0) e in omega arith

first_zero : Race.first_id ≢ zero_id
first_zero e = let h : ◌≡◌ {A = ℕ} 5 20 = ap length e in omega arith

next_zero : (n : ℕ) → Race.next_id n ≢ zero_id
next_zero n e = let h : ◌≡◌ {A = ℕ} 11 20 = ap length e in omega arith

-- ---- what is stored

base_tree : get Race.base Race.tree_id ≡ Some Race.tree_object
base_tree =
    insert_other nat_list_cmp_total bytes_same (insert empty Race.tree_id Race.tree_object) Race.first_id Race.first_commit Race.tree_id tree_first
    ∙ insert_same nat_list_cmp_total bytes_same empty Race.tree_id Race.tree_object

base_first : get Race.base Race.first_id ≡ Some Race.first_commit
base_first = insert_same nat_list_cmp_total bytes_same (insert empty Race.tree_id Race.tree_object) Race.first_id Race.first_commit

base_cases : (x : Id) (o : Object) → get Race.base x ≡ Some o → (x ≡ Race.first_id) ⊎ (x ≡ Race.tree_id)
base_cases x o g = elim (insert_cases nat_list_cmp_total bytes_same (insert empty Race.tree_id Race.tree_object) Race.first_id Race.first_commit x o g) [
  | inl is ↦ inl is.0
  | inr was ↦ elim (insert_cases nat_list_cmp_total bytes_same empty Race.tree_id Race.tree_object x o was) [
    | inl is ↦ inr is.0
    | inr was ↦ absurd (none_in_empty (slice_cmp nat_cmp) x o was)
  ]
]

base_next : (n : ℕ) → get Race.base (Race.next_id n) ≡ None
base_next n =
    insert_other nat_list_cmp_total bytes_same (insert empty Race.tree_id Race.tree_object) Race.first_id Race.first_commit (Race.next_id n) (λ e. first_next n (sym e))
    ∙ (insert_other nat_list_cmp_total bytes_same empty Race.tree_id Race.tree_object (Race.next_id n) (λ e. tree_next n (sym e)) ∙ get-empty (slice_cmp nat_cmp) (Race.next_id n))

with_tree : (n : ℕ) → get (Race.base_with n) Race.tree_id ≡ Some Race.tree_object
with_tree n = insert_other nat_list_cmp_total bytes_same Race.base (Race.next_id n) (Race.next_commit n) Race.tree_id (tree_next n) ∙ base_tree

with_first : (n : ℕ) → get (Race.base_with n) Race.first_id ≡ Some Race.first_commit
with_first n = insert_other nat_list_cmp_total bytes_same Race.base (Race.next_id n) (Race.next_commit n) Race.first_id (first_next n) ∙ base_first

with_next : (n : ℕ) → get (Race.base_with n) (Race.next_id n) ≡ Some (Race.next_commit n)
with_next n = insert_same nat_list_cmp_total bytes_same Race.base (Race.next_id n) (Race.next_commit n)

carried_next : (n : ℕ) → get (Race.carried_of n) (Race.next_id n) ≡ Some (Race.next_commit n)
carried_next n = insert_same nat_list_cmp_total bytes_same empty (Race.next_id n) (Race.next_commit n)

none_or : (a b : Option Object) → a ≡ None → option_or a b ≡ b
none_or None b e = refl
none_or (Some o) b e = absurd (cc)

-- one object is added that was not there
added_one : (s : Objects) (x : Id) (o : Object) → get s x ≡ None → AllAdded s (insert empty x o) (insert s x o)
added_one s x o none = record { each = λ y. go y (same_key nat_list_cmp_total bytes_same y x) }
  where
    go : (y : Id) → (y ≡ x) ⊎ (y ≢ x) → get (insert s x o) y ≡ over s (insert empty x o) y
    go y (inl e) =
        let left : get (insert s x o) y ≡ Some o = ap (get (insert s x o)) e ∙ insert_same nat_list_cmp_total bytes_same s x o in
        let right : over s (insert empty x o) y ≡ Some o =
        none_or (get s y) (get (insert empty x o) y) (ap (get s) e ∙ none) ∙ (ap (get (insert empty x o)) e ∙ insert_same nat_list_cmp_total bytes_same empty x o) in
        left ∙ sym right
    go y (inr e) =
        insert_other nat_list_cmp_total bytes_same s x o y e
        ∙ (or_none (get s y) y ∙ ap (option_or (get s y)) (sym (insert_other nat_list_cmp_total bytes_same empty x o y e)))

-- ---- graphs in which a next commit stands

module _ (n : ℕ) (at : Lookup) (tree : at Race.tree_id ≡ Some Race.tree_object) (first : at Race.first_id ≡ Some Race.first_commit) (next : at (Race.next_id n) ≡ Some (Race.next_commit n)) where
  tree_closed : IsClosed fmt at Race.tree_id
  tree_closed = closed_step at Race.tree_id Race.tree_object tree tt

  first_closed : IsClosed fmt at Race.first_id
  first_closed = closed_step at Race.first_id Race.first_commit first (tree_closed, tt)

  next_closed : IsClosed fmt at (Race.next_id n)
  next_closed = closed_step at (Race.next_id n) (Race.next_commit n) next (tree_closed, (first_closed, tt))

  first_history : HasHistory fmt at Race.first_id
  first_history = history_step at Race.first_id Race.first_commit first refl tt

  next_history : HasHistory fmt at (Race.next_id n)
  next_history = history_step at (Race.next_id n) (Race.next_commit n) next refl (first_history, tt)

  next_descends : IsAncestor fmt at Race.first_id (Race.next_id n)
  next_descends = (Race.first_id ∷ [], (record { object = Race.next_commit n; found = next; commit = refl; parent = (0, omega arith, refl) }, refl))

-- ---- what the first commit reaches

in_none : (z : Id) → Contains {X = Id} [] z → ⊥
in_none z c = absurd (let k : c.0 < 0 = c.1 in omega arith)

in_one : (x z : Id) → Contains (x ∷ []) z → z ≡ x
in_one x z c = all_holds (λ y. y ≡ x) (x ∷ []) z (refl, tt) c

from_tree : (at : Lookup) → at Race.tree_id ≡ Some Race.tree_object → (y : Id) (zs : List Id) → Path (Links fmt at) zs Race.tree_id y → y ≡ Race.tree_id
from_tree at is y [] p = sym p
from_tree at is y (z ∷ zs) p =
    let same : p.0.object ≡ Race.tree_object = let f = p.0.found in cc in
    absurd (in_none z (subst (λ (q : Object). Contains (fmt.links q) z) same p.0.link))

from_first : (at : Lookup) → at Race.tree_id ≡ Some Race.tree_object → at Race.first_id ≡ Some Race.first_commit → (y : Id) (zs : List Id) → Path (Links fmt at) zs Race.first_id y → (y ≡ Race.first_id) ⊎ (y ≡ Race.tree_id)
from_first at tree is y [] p = inl (sym p)
from_first at tree is y (z ∷ zs) p =
    let same : p.0.object ≡ Race.first_commit = let f = p.0.found in cc in
    let z_is : z ≡ Race.tree_id = in_one Race.tree_id z (subst (λ (q : Object). Contains (fmt.links q) z) same p.0.link) in
    inr (from_tree at tree y zs (subst (λ (x : Id). Path (Links fmt at) zs x y) z_is p.1))

-- ---- refs

abbrev one_ref : RefName → Id → Refs
one_ref t x = insert empty t x

single : (t : RefName) (x : Id) (m : RefName) (v : Id) → get (one_ref t x) m ≡ Some v → (m ≡ t) × (v ≡ x)
single t x m v g = elim (insert_cases nat_list_cmp_total bytes_same empty t x m v g) [ inl is ↦ is | inr was ↦ absurd (none_in_empty (slice_cmp nat_cmp) m v was) ]

free_alone : (refs : Refs) (t : RefName) → ((m : RefName) (v : Id) → get refs m ≡ Some v → m ≡ t) → IsFree refs t
free_alone refs t alone m v g c = no_conflict t (subst (λ m. Conflicts m t) (alone m v g) c)

first_alone : (m : RefName) (v : Id) → get Race.main_at_first m ≡ Some v → m ≡ branch Race.main
first_alone m v g = (single (branch Race.main) Race.first_id m v g).0

next_alone : (m : RefName) (v : Id) → get Race.main_at_next m ≡ Some v → m ≡ branch Race.main
next_alone m v g = elim (insert_cases nat_list_cmp_total bytes_same Race.main_at_first (branch Race.main) (Race.next_id 3) m v g) [ inl is ↦ is.0 | inr was ↦ first_alone m v was ]

knows_alone : (m : RefName) (v : Id) → get Race.knows_first m ≡ Some v → (m ≡ tracking Race.main) × (v ≡ Race.first_id)
knows_alone m v g = single (tracking Race.main) Race.first_id m v g

knows_main : get Race.knows_first (tracking Race.main) ≡ Some Race.first_id
knows_main = insert_same nat_list_cmp_total bytes_same empty (tracking Race.main) Race.first_id

-- ---- the clones push

carries_exactly : (n : ℕ) → IsDifference fmt (Race.base_with n) (IsItemId (Race.item_of n ∷ [])) (IsTrackingValue Race.knows_first) (Race.carried_of n)
carries_exactly n = record { only = only; all = all }
  where
    root_first : (x : Id) → IsTrackingValue Race.knows_first x → x ≡ Race.first_id
    root_first x t = (knows_alone (tracking t.0) x t.1).1

    old_only : (x y : Id) → IsTrackingValue Race.knows_first x → Reaches (Links fmt (stored (Race.base_with n))) x y → (y ≡ Race.first_id) ⊎ (y ≡ Race.tree_id)
    old_only x y t p = from_first (stored (Race.base_with n)) (with_tree n) (with_first n) y p.0 (subst (λ (x : Id). Path (Links fmt (stored (Race.base_with n))) p.0 x y) (root_first x t) p.1)

    new_not_old : (x : Id) → IsTrackingValue Race.knows_first x → Reaches (Links fmt (stored (Race.base_with n))) x (Race.next_id n) → ⊥
    new_not_old x t p = elim (old_only x (Race.next_id n) t p) [ inl e ↦ first_next n (sym e) | inr e ↦ tree_next n (sym e) ]

    is_new : (x : Id) (o : Object) → get (Race.carried_of n) x ≡ Some o → (x ≡ Race.next_id n) × (o ≡ Race.next_commit n)
    is_new x o g = elim (insert_cases nat_list_cmp_total bytes_same empty (Race.next_id n) (Race.next_commit n) x o g) [ inl is ↦ is | inr was ↦ absurd (none_in_empty (slice_cmp nat_cmp) x o was) ]

    only : (x : Id) (o : Object) → get (Race.carried_of n) x ≡ Some o
        → (get (Race.base_with n) x ≡ Some o) × ((r : Id) × IsItemId (Race.item_of n ∷ []) r × Reaches (Links fmt (stored (Race.base_with n))) r x)
        × (¬ ((r : Id) × IsTrackingValue Race.knows_first r × Reaches (Links fmt (stored (Race.base_with n))) r x))
    only x o g =
        let is = is_new x o g in (
          ap (get (Race.base_with n)) is.0 ∙ (with_next n ∙ ap Some (sym is.1)),
          (Race.next_id n, (Race.item_of n, (0, omega arith, refl), refl), ([], sym is.0)),
          λ r. new_not_old r.0 r.1 (subst (λ (y : Id). Reaches (Links fmt (stored (Race.base_with n))) r.0 y) is.0 r.2),
        )

    old_reached : (x : Id) → (x ≡ Race.first_id) ⊎ (x ≡ Race.tree_id) → (r : Id) × IsTrackingValue Race.knows_first r × Reaches (Links fmt (stored (Race.base_with n))) r x
    old_reached x (inl e) = (Race.first_id, (Race.main, knows_main), ([], sym e))
    old_reached x (inr e) =
        (Race.first_id, (Race.main, knows_main), (Race.tree_id ∷ [], (record { object = Race.first_commit; found = with_first n; link = (0, omega arith, refl) }, sym e)))

    all : (x : Id) (o : Object) → get (Race.base_with n) x ≡ Some o → ((r : Id) × IsItemId (Race.item_of n ∷ []) r × Reaches (Links fmt (stored (Race.base_with n))) r x)
        → (¬ ((r : Id) × IsTrackingValue Race.knows_first r × Reaches (Links fmt (stored (Race.base_with n))) r x)) → get (Race.carried_of n) x ≡ Some o
    all x o g r not = elim (insert_cases nat_list_cmp_total bytes_same Race.base (Race.next_id n) (Race.next_commit n) x o g) [
      | inl is ↦ ap (get (Race.carried_of n)) is.0 ∙ (carried_next n ∙ ap Some (sym is.1))
      | inr was ↦ absurd (not (old_reached x (base_cases x o was)))
    ]

pushes : (n : ℕ) → CloneStep fmt (Race.node_at (Race.base_with n) Race.knows_first Nothing) (Commanded (StartPush false (Race.item_of n ∷ []))) (Did Sends) (Race.node_at (Race.base_with n) Race.knows_first Nothing) (Some (Race.push_of n))
pushes n = clone_works Nothing (sending Nothing (Race.push_of n)) refl
    (Race.command_of n ∷ [], Race.carried_of n, (refl, refl, inl (Race.main, refl, sym (ap (λ (o : Option Id). unwrap_or o zero_id) knows_main)), tt), carries_exactly n, refl)
    ((Race.base_with n, none_added (Race.base_with n), refl), refl, refl) refl

-- ---- slots

here : (l : Slots) (k : ℕ) (p : OpenPush) → get (insert l k p) k ≡ Some p
here l k p = insert_same nat_cmp_total nat_cmp-IsAntisymmetric l k p

there : (l : Slots) (k : ℕ) (p q : OpenPush) (j : ℕ) → j ≢ k → get l j ≡ Some q → get (insert l k p) j ≡ Some q
there l k p q j e g = insert_other nat_cmp_total nat_cmp-IsAntisymmetric l k p j e ∙ g

zero_one : ◌≢◌ {A = ℕ} 0 1
zero_one e = omega arith

one_zero : ◌≢◌ {A = ℕ} 1 0
one_zero e = omega arith

opens_first : SharedStep fmt (Race.at_first Race.base empty) (Arrives (Race.push_of 2)) (Did (Opened 0)) (Race.at_first Race.base Race.one_open) None
opens_first = works empty (record { effect = no_effect; left = Race.one_open; sends = None; reply = Opened 0 }) refl
    (0, record { below = omega arith; free = get-empty nat_cmp 0; lowest = λ t h. absurd (omega arith) }, refl)
    ((Race.base, none_added Race.base, refl), refl, refl) refl

below_one : (t : ℕ) → t < 1 → t ≡ 0
below_one t h = omega arith

opens_second : SharedStep fmt (Race.at_first Race.base Race.one_open) (Arrives (Race.push_of 3)) (Did (Opened 1)) (Race.at_first Race.base Race.both_open) None
opens_second = works Race.one_open (record { effect = no_effect; left = Race.both_open; sends = None; reply = Opened 1 }) refl (
  1,
  record {
    below = omega arith;
    free = insert_other nat_cmp_total nat_cmp-IsAntisymmetric empty 0 (Race.unpacked 2) 1 one_zero ∙ get-empty nat_cmp 1;
    lowest = λ t h e. absurd (let g : get Race.one_open t ≡ Some (Race.unpacked 2) = ap (get Race.one_open) (below_one t h) ∙ here empty 0 (Race.unpacked 2) in cc);
  },
  refl,
)
    ((Race.base, none_added Race.base, refl), refl, refl) refl

over_carried : (n : ℕ) → over Race.base (Race.carried_of n) (Race.next_id n) ≡ Some (Race.next_commit n)
over_carried n = none_or (get Race.base (Race.next_id n)) (get (Race.carried_of n) (Race.next_id n)) (base_next n) ∙ carried_next n

some_or : (a b : Option Object) (o : Object) → a ≡ Some o → option_or a b ≡ Some o
some_or None b o e = absurd (cc)
some_or (Some p) b o e = e

checks : (n k : ℕ) (l : Slots) → get l k ≡ Some (Race.unpacked n) → SharedStep fmt (Race.at_first Race.base l) (StepSlot k) (Did (Passed 1)) (Race.at_first Race.base (insert l k (Race.checked n))) None
checks n k l got =
    let at : Lookup = over Race.base (Race.carried_of n) in
    let tree : at Race.tree_id ≡ Some Race.tree_object = some_or (get Race.base Race.tree_id) (get (Race.carried_of n) Race.tree_id) Race.tree_object base_tree in
    let first : at Race.first_id ≡ Some Race.first_commit = some_or (get Race.base Race.first_id) (get (Race.carried_of n) Race.first_id) Race.first_commit base_first in
    works l (record { effect = no_effect; left = insert l k (Race.checked n); sends = None; reply = Passed 1 }) refl (
      Race.unpacked n,
      got,
      inl (
        Race.checked n,
        (
          record { command = Race.command_of n; verdict = Passing } ∷ [],
          (
            refl,
            (refl, (inl (Race.main, refl), (next_zero n, (next_closed n at tree first (over_carried n), ((λ _. next_history n at tree first (over_carried n)), ((λ _. inr (next_descends n at tree first (over_carried n))), tt)))))),
            tt,
          ),
          refl,
          refl,
          refl,
        ),
        refl,
        refl,
      ),
    )
    ((Race.base, none_added Race.base, refl), refl, refl) refl

migrates : (n k : ℕ) (s : Objects) (l : Slots) → get l k ≡ Some (Race.checked n) → get s (Race.next_id n) ≡ None
    → SharedStep fmt (Race.at_first s l) (StepSlot k) (Did MigratedAll) (Race.at_first (insert s (Race.next_id n) (Race.next_commit n)) (insert l k (Race.migrated n))) None
migrates n k s l got none = works l (record { effect = record { objects = Race.carried_of n; changes = [] }; left = insert l k (Race.migrated n); sends = None; reply = MigratedAll }) refl
    (Race.checked n, got, inl (Race.migrated n, (refl, refl, refl), refl, refl))
    ((insert s (Race.next_id n) (Race.next_commit n), added_one s (Race.next_id n) (Race.next_commit n) none, refl), refl, refl) refl

first_current : get Race.main_at_first (branch Race.main) ≡ Some Race.first_id
first_current = insert_same nat_list_cmp_total bytes_same empty (branch Race.main) Race.first_id

next_current : get Race.main_at_next (branch Race.main) ≡ Some (Race.next_id 3)
next_current = insert_same nat_list_cmp_total bytes_same Race.main_at_first (branch Race.main) (Race.next_id 3)

updates : SharedStep fmt (Race.at_first Race.all_objects Race.both_migrated) (StepSlot 1) (Did (Updated (branch Race.main) None)) (Race.at_next Race.one_updated) None
updates = works Race.both_migrated (record { effect = only_changes (SetRefs ((branch Race.main, Race.next_id 3) ∷ []) ∷ []); left = Race.one_updated; sends = None; reply = Updated (branch Race.main) None }) refl (
  Race.migrated 3,
  here Race.one_migrated 1 (Race.migrated 3),
  inl (
    Race.accepted_push,
    (
      Race.accepted_push.commands,
      SetRefs ((branch Race.main, Race.next_id 3) ∷ []) ∷ [],
      singly (record {
        front = [];
        next = record { command = Race.command_of 3; verdict = Passing };
        back = [];
        verdict = Accepted;
        before = refl;
        first = refl;
        passing = refl;
        update = (((λ t. absurd (branch_tag_apart Race.main t.0 t.1)), (free_alone Race.main_at_first (branch Race.main) first_alone, (inr (first_zero, first_current), tt))), refl);
        after = refl;
      }) refl refl,
      refl,
      refl,
    ),
    refl,
    refl,
  ),
)
    ((Race.all_objects, none_added Race.all_objects, refl), refl, refl) refl

stale_now : ((Race.first_id ≡ zero_id) × (get Race.main_at_next (branch Race.main) ≡ None)) ⊎ ((Race.first_id ≢ zero_id) × (get Race.main_at_next (branch Race.main) ≡ Some Race.first_id)) → ⊥
stale_now (inl z) = first_zero z.0
stale_now (inr z) = first_next 3 (same_some Race.first_id (Race.next_id 3) (sym z.1 ∙ next_current))
  where
    same_some : (x y : Id) → Some x ≡ Some y → x ≡ y
    same_some x y e = cc

refuses : SharedStep fmt (Race.at_next Race.one_updated) (StepSlot 0) (Did (Updated (branch Race.main) (Some Stale))) (Race.at_next Race.both_updated) None
refuses = works Race.one_updated (record { effect = only_changes []; left = Race.both_updated; sends = None; reply = Updated (branch Race.main) (Some Stale) }) refl (
  Race.migrated 2,
  there Race.both_migrated 1 Race.accepted_push (Race.migrated 2) 0 zero_one (there Race.one_migrated 1 (Race.migrated 3) (Race.migrated 2) 0 zero_one (here Race.both_checked 0 (Race.migrated 2))),
  inl (
    Race.stale_push,
    (
      Race.stale_push.commands,
      [],
      singly (record {
        front = [];
        next = record { command = Race.command_of 2; verdict = Passing };
        back = [];
        verdict = Refused Stale;
        before = refl;
        first = refl;
        passing = refl;
        update = (inr ((λ t. absurd (branch_tag_apart Race.main t.0 t.1)), inr (free_alone Race.main_at_next (branch Race.main) next_alone, inl (stale_now, refl))), refl);
        after = refl;
      }) refl refl,
      refl,
      refl,
    ),
    refl,
    refl,
  ),
)
    ((Race.all_objects, none_added Race.all_objects, refl), refl, refl) refl

reports_won : SharedStep fmt (Race.at_next Race.both_updated) (StepSlot 1) (Did Sends) (Race.at_next Race.one_reported) (Some Race.won)
reports_won = works Race.both_updated (record { effect = no_effect; left = Race.one_reported; sends = Some Race.won; reply = Sends }) refl (
  Race.accepted_push,
  there Race.one_updated 0 Race.stale_push Race.accepted_push 1 one_zero (here Race.both_migrated 1 Race.accepted_push),
  inr (record { name = branch Race.main; outcome = Ok (Race.next_id 3) } ∷ [], refl, ((refl, inl (refl, refl)), tt), refl),
)
    ((Race.all_objects, none_added Race.all_objects, refl), refl, refl) refl

reports_lost : SharedStep fmt (Race.at_next Race.one_reported) (StepSlot 0) (Did Sends) (Race.at_next Race.both_reported) (Some Race.lost)
reports_lost = works Race.one_reported (record { effect = no_effect; left = Race.both_reported; sends = Some Race.lost; reply = Sends }) refl (
  Race.stale_push,
  remove_other nat_cmp_total nat_cmp-IsAntisymmetric Race.both_updated 1 0 zero_one ∙ here Race.one_updated 0 Race.stale_push,
  inr (record { name = branch Race.main; outcome = Err 108 } ∷ [], refl, ((refl, inr (Stale, refl, refl)), tt), refl),
)
    ((Race.all_objects, none_added Race.all_objects, refl), refl, refl) refl

-- ---- the clones hear of it

hears_won : CloneStep fmt (Race.node_at (Race.base_with 3) Race.knows_first Nothing) (Gets Race.won) (Did (Reported 1 [])) (Race.node_at (Race.base_with 3) Race.knows_next Nothing) None
hears_won =
    let at : Lookup = stored (Race.base_with 3) in
    clone_works Nothing (quietly Nothing (only_changes (SetRefs ((tracking Race.main, Race.next_id 3) ∷ []) ∷ [])) (Reported 1 [])) refl (
      SetRefs ((tracking Race.main, Race.next_id 3) ∷ []) ∷ [],
      inl (
        tracking Race.main,
        [],
        record {
          name = Race.main;
          branch_is = refl;
          tracking_is = refl;
          legal = refl;
          fits = refl;
          free = free_alone Race.knows_first (tracking Race.main) (λ m v g. (knows_alone m v g).0);
          good = (next_closed 3 at (with_tree 3) (with_first 3) (with_next 3), next_history 3 at (with_tree 3) (with_first 3) (with_next 3));
          forward = inr (Race.first_id, knows_main, first_next 3, next_descends 3 at (with_tree 3) (with_first 3) (with_next 3));
        },
        refl,
        refl,
      ),
      refl,
    )
    ((Race.base_with 3, none_added (Race.base_with 3), refl), refl, refl) refl

hears_lost : CloneStep fmt (Race.node_at (Race.base_with 2) Race.knows_first Nothing) (Gets Race.lost) (Did (Reported 0 (108 ∷ []))) (Race.node_at (Race.base_with 2) Race.knows_first Nothing) None
hears_lost = clone_works Nothing (quietly Nothing (only_changes []) (Reported 0 (108 ∷ []))) refl ([], refl, refl)
    ((Race.base_with 2, none_added (Race.base_with 2), refl), refl, refl) refl

-- ---- the run

at_clone_here : (cs : FinMap nat_cmp CloneNode) (c : ℕ) (n : CloneNode) → get (insert cs c n) c ≡ Some n
at_clone_here cs c n = insert_same nat_cmp_total nat_cmp-IsAntisymmetric cs c n

at_clone_there : (cs : FinMap nat_cmp CloneNode) (c : ℕ) (n m : CloneNode) (d : ℕ) → d ≢ c → get cs d ≡ Some m → get (insert cs c n) d ≡ Some m
at_clone_there cs c n m d e g = insert_other nat_cmp_total nat_cmp-IsAntisymmetric cs c n d e ∙ g

abbrev node_0 : CloneNode
node_0 = Race.node_at (Race.base_with 2) Race.knows_first Nothing

abbrev node_1 : CloneNode
node_1 = Race.node_at (Race.base_with 3) Race.knows_first Nothing

abbrev node_1_after : CloneNode
node_1_after = Race.node_at (Race.base_with 3) Race.knows_next Nothing

from_0 : 0 ≡ unwrap_or (get Race.senders_01 0) 0
from_0 = sym (ap (λ (o : Option ℕ). unwrap_or o 0) (insert_other nat_cmp_total nat_cmp-IsAntisymmetric Race.sender_0 1 1 0 zero_one ∙ insert_same nat_cmp_total nat_cmp-IsAntisymmetric empty 0 0))

from_1 : 1 ≡ unwrap_or (get Race.senders_01 1) 0
from_1 = sym (ap (λ (o : Option ℕ). unwrap_or o 0) (insert_same nat_cmp_total nat_cmp-IsAntisymmetric Race.sender_0 1 1))

second_absent : get (Race.base_with 2) (Race.next_id 3) ≡ None
second_absent = insert_other nat_list_cmp_total bytes_same Race.base (Race.next_id 2) (Race.next_commit 2) (Race.next_id 3) next_apart ∙ base_next 3

the_run : Run fmt Race.race_start Race.race
the_run = (
  at_clone 0 (Gets Race.lost) node_0 node_0 None (Race.lost, refl, refl) (at_clone_there Race.clones_2 1 node_1_after node_0 0 zero_one (at_clone_there Race.clones_1 1 node_1 node_0 0 zero_one (at_clone_here Race.clones_0 0 node_0))) hears_lost refl,
  (
    at_clone 1 (Gets Race.won) node_1 node_1_after None (Race.won, refl, refl) (at_clone_here Race.clones_1 1 node_1) hears_won refl,
    (
      at_shared 0 (StepSlot 0) (Race.at_next Race.both_reported) (Some Race.lost) (from_0, refl) reports_lost refl,
      (
        at_shared 1 (StepSlot 1) (Race.at_next Race.one_reported) (Some Race.won) (from_1, refl) reports_won refl,
        (
          at_shared 0 (StepSlot 0) (Race.at_next Race.both_updated) None (from_0, refl) refuses refl,
          (
            at_shared 1 (StepSlot 1) (Race.at_next Race.one_updated) None (from_1, refl) updates refl,
            (
              at_shared 1 (StepSlot 1) (Race.at_first Race.all_objects Race.both_migrated) None (from_1, refl)
                  (migrates 3 1 (Race.base_with 2) Race.one_migrated (there Race.both_checked 0 (Race.migrated 2) (Race.checked 3) 1 one_zero (here Race.one_checked 1 (Race.checked 3))) second_absent) refl,
              (
                at_shared 0 (StepSlot 0) (Race.at_first (Race.base_with 2) Race.one_migrated) None (from_0, refl)
                    (migrates 2 0 Race.base Race.both_checked (there Race.one_checked 1 (Race.checked 3) (Race.checked 2) 0 zero_one (here Race.both_open 0 (Race.checked 2))) (base_next 2)) refl,
                (
                  at_shared 1 (StepSlot 1) (Race.at_first Race.base Race.both_checked) None (from_1, refl)
                      (checks 3 1 Race.one_checked (there Race.both_open 0 (Race.checked 2) (Race.unpacked 3) 1 one_zero (here Race.one_open 1 (Race.unpacked 3)))) refl,
                  (
                    at_shared 0 (StepSlot 0) (Race.at_first Race.base Race.one_checked) None (from_0, refl)
                        (checks 2 0 Race.both_open (there Race.one_open 1 (Race.unpacked 3) (Race.unpacked 2) 0 zero_one (here empty 0 (Race.unpacked 2)))) refl,
                    (
                      at_shared 1 (Arrives (Race.push_of 3)) (Race.at_first Race.base Race.both_open) None (Race.push_of 3, refl, refl) opens_second refl,
                      (
                        at_shared 0 (Arrives (Race.push_of 2)) (Race.at_first Race.base Race.one_open) None (Race.push_of 2, refl, refl) opens_first refl,
                        (
                          at_clone 1 (Commanded (StartPush false (Race.item_of 3 ∷ []))) node_1 node_1 (Some (Race.push_of 3)) (refl, refl)
                              (at_clone_there Race.clones_0 0 node_0 node_1 1 one_zero (at_clone_here (insert empty 0 node_0) 1 node_1)) (pushes 3) refl,
                          (
                            at_clone 0 (Commanded (StartPush false (Race.item_of 2 ∷ []))) node_0 node_0 (Some (Race.push_of 2)) (refl, refl)
                                (at_clone_there (insert empty 0 node_0) 1 node_1 node_0 0 zero_one (at_clone_here empty 0 node_0)) (pushes 2) refl,
                            tt,
                          ),
                        ),
                      ),
                    ),
                  ),
                ),
              ),
            ),
          ),
        ),
      ),
    ),
  ),
)

pub the_race : Race.TheRace
the_race = (
  the_run,
  next_current,
  value_at_clone (world_after Race.race_start Race.race) 1 Race.main (Race.next_id 3)
      (node_1_after, at_clone_there Race.clones_3 0 node_0 node_1_after 1 one_zero (at_clone_here Race.clones_2 1 node_1_after), insert_same nat_list_cmp_total bytes_same Race.knows_first (tracking Race.main) (Race.next_id 3)),
  value_at_clone (world_after Race.race_start Race.race) 0 Race.main Race.first_id (node_0, at_clone_here Race.clones_3 0 node_0, knows_main),
)
