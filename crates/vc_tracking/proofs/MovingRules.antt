-- One ref moves as the machine has it, and whether one may is decided.
use Rattle.std.proofs.Common.{arith, ◌≡◌, ◌⊎◌, inl, inr, ℕ, Bool, true, false, cond, not, nat_le, ◌&&◌, ◌||◌, ◌≤◌, codes, length, List, ◌∷◌, ◌++◌, Option, Some, None, refl, sym, ap, ◌∙◌, subst, true≢false, IsUtf8, []}
use Rattle.std.specs.Prelude.{is_some, option_map}
use Rattle.std.specs.FinMap.{entries, find, get, get-entries}
use Rattle.std.specs.List.{AllByRecursion}
use Rattle.std.specs.Ordering.{nat_cmp, eq_by_cmp}
use Rattle.std.specs.Cmp.Lexicographic.{slice_cmp, nat_list_cmp_total}
use Rattle.std.specs.Str.{is_utf8}
use Rattle.std.proofs.lemmas.Bool.{and_from, and_parts, false_from_ne_true}
use Rattle.std.proofs.lemmas.Bool.Decides.{nat_tests}
use Rattle.std.proofs.lemmas.Str.{IsCharBoundary-after_ascii, IsUtf8-append, IsUtf8-drop, IsUtf8-from_is_utf8, is_utf8-from_IsUtf8}
use Rattle.std.proofs.lemmas.Option.{same_Some}
use Rattle.vc_format.specs.Git.{git_is_legal, id_of_bytes}
use Rattle.vc_model.proofs.Entries.{all_entries}
use Rattle.vc_model.specs.Clone.{MovesBranch, MovesTag}
use Rattle.vc_model.specs.Object.{Id, Objects, stored}
use Rattle.vc_model.specs.Reach.{IsAncestor}
use Rattle.vc_model.specs.Refs.{IsFree, RefName, Refs, tracking}
use Rattle.vc_object.proofs.IdLemmas.{id_eq_equiv, id_eq-same}
use Rattle.vc_object.specs.Decoding.{StoredObject}
use Rattle.vc_object.specs.Object.{IsObject}
use Rattle.vc_object.specs.ObjectId.{id_eq}
use Rattle.vc_object.specs.ObjectMap.{ObjectMap}
use Rattle.vc_object.specs.declared.id.ObjectId.{ObjectId}
use Rattle.vc_object_map.specs.Graph as graph
use Rattle.vc_refname.proofs.BrokenRules.{is_ref_name-from_legal, legal_from_is_ref_name}
use Rattle.vc_refname.proofs.Tracking.{tracking_legal}
use Rattle.vc_refname.specs.RefName.{is_ref_name, tracking_name}
use Rattle.vc_refs.specs.RefMap.{RefMap, conflicts}
use Rattle.vc_rules.proofs.ReachLemmas.{closed_from, closed_to, history_from, history_to, line_from, line_to}
use Rattle.vc_rules.proofs.RefLemmas.{conflicts_from, conflicts_to, id_some, some_id}
use Rattle.vc_rules.proofs.VerdictLaws.{branch as branch_named, tag as tag_named}
use Rattle.vc_rules.specs.Git.{git, stored_of}
use Rattle.vc_push_rules.specs.Verdict.{is_branch, is_tag}
use Rattle.vc_tracking.specs.Moving.{Descends, IsFreeAmong, MayFollow, MayTake, follower, has_tags, is_new, rule_of}
use Rattle.vc_tracking.specs.declared.moving.Followed.{Followed}
use Rattle.vc_tracking.specs.declared.moving.Followed.TheVariants.{All, Branches}
use Rattle.vc_tracking.proofs.MovingDecisions.{Decided, decided_both, decided_if, decided_iff, decided_test}
use Rattle.vc_tracking.proofs.MovingPaths.{decided_ancestor, decided_closed, decided_history, key_same}

-- ---- names
begins_with : IsUtf8 (codes "refs/remotes/origin/")
unfolding lib.Utf8.encode
begins_with = (codes "refs/remotes/origin/", (refl, refl))

-- the tracking name of a legal branch is legal
tracking_fits : (b : List ℕ) → git_is_legal (codes "refs/heads/" ++ b) ≡ true → git_is_legal (codes "refs/remotes/origin/" ++ b) ≡ true
tracking_fits b legal =
    let name = codes "refs/heads/" ++ b in
    let to = codes "refs/remotes/origin/" ++ b in
    let text = and_parts (is_utf8 name) (is_ref_name name && (not (is_branch name) || nat_le (length name) 246)) legal in
    let parts = and_parts (is_ref_name name) (not (is_branch name) || nat_le (length name) 246) text.1 in
    let short : nat_le (length name) 246 ≡ true = sym (ap (λ x. not x || nat_le (length name) 246) ((branch_named name).1 (b, refl))) ∙ parts.1 in
    let fits : length b ≤ 235 = grind (arith, nat_tests, short) in
    let utf8 : IsUtf8 name = IsUtf8-from_is_utf8 name text.0 in
    let tail : IsUtf8 b = IsUtf8-drop name 11 utf8 (IsCharBoundary-after_ascii name 10 utf8 (omega arith) (omega arith)) in
    let ok : is_ref_name to ≡ true = is_ref_name-from_legal to (tracking_legal b fits (legal_from_is_ref_name name parts.0)) in
    and_from (is_utf8 to) _ (is_utf8-from_IsUtf8 to (IsUtf8-append (codes "refs/remotes/origin/") b begins_with tail)) (and_from (is_ref_name to) _ ok refl)

none_some : (x : List ℕ) → ◌≡◌ {A = Option (List ℕ)} None (Some x) → ⊥
none_some x e = cc e

-- ---- over objects, and the refs of a moment
module _ (o : ObjectMap) (s : Objects) (rel : (x : Id) → o (id_of_bytes x) ≡ option_map stored_of (get s x)) (sound : (id : ObjectId) (q : StoredObject) → o id ≡ Some q → IsObject q.kind q.body) where
  module _ (map : RefMap) (rs : Refs) (refs_are : (n : RefName) → map n ≡ option_map id_of_bytes (get rs n)) where
    free_from : (name : List ℕ) → IsFreeAmong map name → IsFree rs name
    free_from name free m x found conflict = true≢false (sym (conflicts_to m name conflict) ∙ free m (ap is_some (refs_are m) ∙ some_id (get rs m) x found))

    free_to : (name : List ℕ) → IsFree rs name → IsFreeAmong map name
    free_to name free other there = false_from_ne_true (conflicts other name) (λ conflict.
        let x = id_some (get rs other) (sym (ap is_some (refs_are other)) ∙ there) in
        free other x.0 x.1 (conflicts_from other name conflict))

    abbrev pub May : Followed → List ℕ → ObjectId → List ℕ → Type 0
    May followed name id to = MayFollow followed o map name id to × IsFreeAmong map to

    -- ---- what may move, in the machine
    differs : (u : Id) (id : ObjectId) → not (id_eq (id_of_bytes u) id) ≡ true → u ≡ id.0 → ⊥
    differs u id new same =
        let yes : id_eq (id_of_bytes u) id ≡ true = subst (λ (w : Id). id_eq (id_of_bytes w) id ≡ true) (sym same) (id_eq_equiv.refl id) in
        true≢false (sym new ∙ ap not yes)

    ahead : (id : ObjectId) (to : List ℕ) (found : Option Id) → get rs to ≡ found → is_new true (option_map id_of_bytes found) id ≡ true → Descends o (option_map id_of_bytes found) id
        → (get rs to ≡ None) ⊎ ((u : Id) × (get rs to ≡ Some u) × (u ≡ id.0 → ⊥) × IsAncestor git (stored s) u id.0)
    ahead id to None e new d = inl e
    ahead id to (Some u) e new d = inr (u, e, differs u id new, line_from o (stored s) rel sound id (id_of_bytes u) d)

    branch_moves : (followed : Followed) (name : List ℕ) (id : ObjectId) (to : List ℕ) → git_is_legal name ≡ true → IsFreeAmong map to → is_branch name ≡ true → Some (tracking_name name) ≡ Some to → MayTake o true (map to) id
        → MovesBranch git (stored s) rs name id.0 to
    branch_moves followed name id to legal free e follows takes =
        let b = (branch_named name).0 e in
        let is : to ≡ tracking b.0 = sym (same_Some (tracking_name name) to follows) ∙ ap tracking_name b.1 in
        let forward = takes.forward refl in
        record {
          name = b.0;
          branch_is = b.1;
          tracking_is = is;
          legal = legal;
          fits = subst (λ (t : List ℕ). git_is_legal t ≡ true) (sym is) (tracking_fits b.0 (subst (λ (n : List ℕ). git_is_legal n ≡ true) b.1 legal));
          free = free_from to free;
          good = (closed_from o (stored s) rel id.0 takes.complete, history_from o (stored s) rel sound id.0 forward.0);
          forward = ahead id to (get rs to) refl (subst (λ (f : Option ObjectId). is_new true f id ≡ true) (refs_are to) takes.new) (subst (λ (f : Option ObjectId). Descends o f id) (refs_are to) forward.1);
        }

    absent : (to : List ℕ) (id : ObjectId) (found : Option Id) → is_new false (option_map id_of_bytes found) id ≡ true → found ≡ None
    absent to id None new = refl
    absent to id (Some u) new = absurd (true≢false (sym new))

    tag_moves : (name : List ℕ) (id : ObjectId) (to : List ℕ) → git_is_legal name ≡ true → IsFreeAmong map to → is_tag name ≡ true → name ≡ to → MayTake o false (map to) id → MovesTag git (stored s) rs name id.0 to
    tag_moves name id to legal free e same takes =
        let t = (tag_named name).0 e in
        record {
          name = t.0;
          tag_is = t.1;
          same = sym same;
          legal = legal;
          free = free_from to free;
          closed = closed_from o (stored s) rel id.0 takes.complete;
          absent = absent to id (get rs to) (subst (λ (f : Option ObjectId). is_new false f id ≡ true) (refs_are to) takes.new);
        }

    as_branch : (followed : Followed) {name : List ℕ} {x : Id} {to : List ℕ} → MovesBranch git (stored s) rs name x to → rule_of followed git (stored s) rs name x to
    as_branch All m = inl m
    as_branch Branches m = m

    pub may_moves : (followed : Followed) (name : List ℕ) (id : ObjectId) (to : List ℕ) → May followed name id to → rule_of followed git (stored s) rs name id.0 to
    may_moves followed name id to may = by (is_branch name) refl may.0.follows may.0.takes
      where
        of_tag : (f : Followed) (x : Bool) → is_tag name ≡ x → cond (has_tags f && x) (Some name) None ≡ Some to → MayTake o false (map to) id → rule_of f git (stored s) rs name id.0 to
        of_tag All true e follows takes = inr (tag_moves name id to may.0.legal may.1 e (same_Some name to follows) takes)
        of_tag All false e follows takes = absurd (none_some to follows)
        of_tag Branches x e follows takes = absurd (none_some to follows)

        by : (x : Bool) → is_branch name ≡ x → cond x (Some (tracking_name name)) (cond (has_tags followed && is_tag name) (Some name) None) ≡ Some to → MayTake o x (map to) id → rule_of followed git (stored s) rs name id.0 to
        by true e follows takes = as_branch followed (branch_moves followed name id to may.0.legal may.1 e follows takes)
        by false e follows takes = of_tag followed (is_tag name) refl follows takes

    -- ---- and what moves in the machine may
    is_ahead : (to : List ℕ) (x : Id) → (get rs to ≡ None) ⊎ ((u : Id) × (get rs to ≡ Some u) × (u ≡ x → ⊥) × IsAncestor git (stored s) u x) → (is_new true (map to) (id_of_bytes x) ≡ true) × Descends o (map to) (id_of_bytes x)
    is_ahead to x (inl none) =
        subst (λ (f : Option ObjectId). (is_new true f (id_of_bytes x) ≡ true) × Descends o f (id_of_bytes x)) (sym (refs_are to ∙ ap (option_map id_of_bytes) none)) (refl, tt)
    is_ahead to x (inr (u, found, other, ancestor)) =
        subst (λ (f : Option ObjectId). (is_new true f (id_of_bytes x) ≡ true) × Descends o f (id_of_bytes x)) (sym (refs_are to ∙ ap (option_map id_of_bytes) found)) (
          ap not (false_from_ne_true (id_eq (id_of_bytes u) (id_of_bytes x)) (λ same. other (ap (λ (i : ObjectId). i.0) (id_eq-same (id_of_bytes u) (id_of_bytes x) same)))),
          line_to o (stored s) rel sound ancestor.0 x x u graph.itself ancestor.1,
        )

    branch_may : (followed : Followed) (name : List ℕ) (x : Id) (to : List ℕ) → MovesBranch git (stored s) rs name x to → May followed name (id_of_bytes x) to
    branch_may followed name x to m =
        let e : is_branch name ≡ true = (branch_named name).1 (m.name, m.branch_is) in
        let onward = is_ahead to x m.forward in
        let takes : MayTake o true (map to) (id_of_bytes x) = record {
          new = onward.0;
          complete = closed_to o (stored s) rel x m.good.0;
          forward = λ _. (history_to o (stored s) rel sound x m.good.1, onward.1);
        } in
        let to_is : tracking_name name ≡ to = ap tracking_name m.branch_is ∙ sym m.tracking_is in (
          record {
            legal = m.legal;
            follows = ap (λ b. cond b (Some (tracking_name name)) (cond (has_tags followed && is_tag name) (Some name) None)) e ∙ ap Some to_is;
            takes = subst (λ b. MayTake o b (map to) (id_of_bytes x)) (sym e) takes;
          },
          free_to to m.free,
        )

    tag_may : (name : List ℕ) (x : Id) (to : List ℕ) → MovesTag git (stored s) rs name x to → May All name (id_of_bytes x) to
    tag_may name x to m =
        let e : is_branch name ≡ false = ap is_branch m.tag_is in
        let t : is_tag name ≡ true = (tag_named name).1 (m.name, m.tag_is) in
        let takes : MayTake o false (map to) (id_of_bytes x) = record {
          new = ap (λ f. is_new false f (id_of_bytes x)) (refs_are to ∙ ap (option_map id_of_bytes) m.absent);
          complete = closed_to o (stored s) rel x m.closed;
          forward = λ no. absurd (true≢false (sym no));
        } in (
          record {
            legal = m.legal;
            follows = ap (λ b. cond b (Some (tracking_name name)) (cond (true && is_tag name) (Some name) None)) e ∙ ap (λ b. cond b (Some name) None) t ∙ ap Some (sym m.same);
            takes = subst (λ b. MayTake o b (map to) (id_of_bytes x)) (sym e) takes;
          },
          free_to to m.free,
        )

    pub moves_may : (followed : Followed) (name : List ℕ) (x : Id) (to : List ℕ) → rule_of followed git (stored s) rs name x to → May followed name (id_of_bytes x) to
    moves_may All name x to (inl m) = branch_may All name x to m
    moves_may All name x to (inr m) = tag_may name x to m
    moves_may Branches name x to m = branch_may Branches name x to m

    -- ---- decided
    decided_descends : (found : Option Id) (x : Id) → Decided (Descends o (option_map id_of_bytes found) (id_of_bytes x))
    decided_descends None x = inl tt
    decided_descends (Some u) x =
        decided_iff (λ a. line_to o (stored s) rel sound a.0 x x u graph.itself a.1) (line_from o (stored s) rel sound (id_of_bytes x) (id_of_bytes u)) (decided_ancestor git s u x)

    -- no entry of the refs is in the way
    free_entries : (to : List ℕ) (es : List (RefName × Id)) → Decided (AllByRecursion (λ e. conflicts e.0 to ≡ false) es)
    free_entries to [] = inl tt
    free_entries to (e ∷ es) = decided_both (by (conflicts e.0 to)) (free_entries to es)
      where
        by : (b : Bool) → Decided (b ≡ false)
        by true = inr (λ no. true≢false no)
        by false = inl refl

    found_free : (to : List ℕ) (es : List (RefName × Id)) → AllByRecursion (λ e. conflicts e.0 to ≡ false) es → (m : RefName) → is_some (find (slice_cmp nat_cmp) m es) ≡ true → conflicts m to ≡ false
    found_free to [] all m h = absurd (true≢false (sym h))
    found_free to (e ∷ es) all m h = by (found_free to es all.1 m) (eq_by_cmp (slice_cmp nat_cmp) m e.0) refl h
      where
        by : (is_some (find (slice_cmp nat_cmp) m es) ≡ true → conflicts m to ≡ false) → (b : Bool) → eq_by_cmp (slice_cmp nat_cmp) m e.0 ≡ b → is_some (cond b (Some e.1) (find (slice_cmp nat_cmp) m es)) ≡ true → conflicts m to ≡ false
        by more true eq is = ap (λ (n : RefName). conflicts n to) (key_same m e.0 eq) ∙ all.0
        by more false eq is = more is

    some_of : (found : Option Id) → is_some (option_map id_of_bytes found) ≡ is_some found
    some_of None = refl
    some_of (Some x) = refl

    decided_free : (to : List ℕ) → Decided (IsFreeAmong map to)
    decided_free to = decided_iff
        (λ all m h. found_free to (entries rs) all m (ap is_some (sym (get-entries rs m)) ∙ sym (some_of (get rs m)) ∙ sym (ap is_some (refs_are m)) ∙ h))
        (λ free. all_entries nat_list_cmp_total (λ e. conflicts e.0 to ≡ false) rs (λ k x found. free k (ap is_some (refs_are k) ∙ some_id (get rs k) x found)))
        (free_entries to (entries rs))

    decided_takes : (branch : Bool) (to : List ℕ) (x : Id) → Decided (MayTake o branch (map to) (id_of_bytes x))
    decided_takes branch to x = decided_iff (λ h. record { new = h.0; complete = h.1.0; forward = h.1.1 }) (λ t. (t.new, (t.complete, t.forward)))
        (decided_both (decided_test (is_new branch (map to) (id_of_bytes x)))
        (decided_both (decided_iff (closed_to o (stored s) rel x) (closed_from o (stored s) rel x) (decided_closed git s x))
        (decided_if (decided_test branch)
        (decided_both (decided_iff (history_to o (stored s) rel sound x) (history_from o (stored s) rel sound x) (decided_history git s x))
        (subst (λ (f : Option ObjectId). Decided (Descends o f (id_of_bytes x))) (sym (refs_are to)) (decided_descends (get rs to) x))))))

    decided_may : (followed : Followed) (name : List ℕ) (x : Id) (found : Option (List ℕ)) → follower followed name ≡ found → Decided ((to : List ℕ) × May followed name (id_of_bytes x) to)
    decided_may followed name x None e = inr (λ h. none_some h.0 (sym e ∙ h.1.0.follows))
    decided_may followed name x (Some to) e = decided_iff
        (λ h. (to, (record { legal = h.0.0; follows = e; takes = h.0.1 }, h.1)))
        (λ h. subst (λ (t : List ℕ). ((git_is_legal name ≡ true) × MayTake o (is_branch name) (map t) (id_of_bytes x)) × IsFreeAmong map t) (same_Some h.0 to (sym h.1.0.follows ∙ e)) ((h.1.0.legal, h.1.0.takes), h.1.1))
        (decided_both (decided_both (decided_test (git_is_legal name)) (decided_takes (is_branch name) to x)) (decided_free to))

    pub decided_move : (followed : Followed) (name : List ℕ) (x : Id) → Decided ((to : List ℕ) × rule_of followed git (stored s) rs name x to)
    decided_move followed name x = decided_iff (λ h. (h.0, may_moves followed name (id_of_bytes x) h.0 h.1)) (λ h. (h.0, moves_may followed name x h.0 h.1)) (decided_may followed name x (follower followed name) refl)
