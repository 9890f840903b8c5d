-- For the functions that make a push: what the clone knows of refs, what lists give step by step, and what is refused.
use Rattle.std.proofs.Common.{◌≡◌, ◌<◌, ◌+◌, ◌↔◌, ◌⊎◌, inl, inr, ⊎_elim, ℕ, Bool, true, false, true≢false, cond, nat_eq, List, [], ◌∷◌, ◌++◌, drop, take, length, get_or, map, Option, Some, None, Contains, refl, sym, ap, ◌∙◌, subst, arith, length-append}
use Rattle.std.specs.Prelude.{codes, unwrap_or, is_some, filter_map}
use Rattle.std.specs.FinMap.{find}
use Rattle.std.specs.List.{AllByRecursion, starts_with, cons_option}
use Rattle.std.specs.Ordering.{eq_by_cmp, nat_cmp}
use Rattle.std.specs.Cmp.Lexicographic.{slice_cmp}
use Rattle.std.proofs.lemmas.Bool.{and_parts, ltb-false}
use Rattle.std.proofs.lemmas.Bool.Decides.{Decides-eqb}
use Rattle.std.proofs.lemmas.List.{length-drop, map_more, map-append, take_more, append-nil}
use Rattle.std.proofs.lemmas.List.Elements.{Contains-append_cases, Contains-append_left, Contains-append_right, Contains-push_cases, filter_map-append}
use Rattle.std.proofs.lemmas.Option.{none-some, same_Some}
use Rattle.std.proofs.lemmas.Slice.Eq.{starts_is}
use Rattle.vc_pack.proofs.AnswerLemmas.{absent_from_links}
use Rattle.vc_pack.proofs.ValuesLemmas.{each_found}
use Rattle.vc_sending.specs.SendFault.{BlamesRefFile, IsRefusedSend, from_graph}
use Rattle.vc_sending.specs.Sending.{AreSent, IsKnown, IsTracked, command_for, known_value, tracked_in}
use Rattle.vc_sending.specs.declared.item.PushItem.{PushItem}
use Rattle.vc_fetch.proofs.RefMaps.{same_name}
use Rattle.vc_files.specs.FileMap.{FileMap}
use Rattle.vc_object_map.specs.Graph.{IsClosedUnder, ReachedFrom}
use Rattle.vc_graph.specs.GraphFault.{IsTold}
use Rattle.vc_graph.specs.declared.fault.GraphFault.{GraphFault}
use Rattle.vc_graph.specs.declared.fault.GraphFault.TheVariants as graph
use Rattle.vc_model.specs.Refs.{tracking}
use Rattle.vc_object.specs.Decoding.{StoredObject}
use Rattle.vc_object.specs.ObjectMap.{links_in}
use Rattle.vc_object.specs.declared.id.ObjectId.{ObjectId}
use Rattle.vc_pkt.specs.Carried.{object_named}
use Rattle.vc_push.specs.Push.{zero_id}
use Rattle.vc_push.specs.PushView.{command_of, commands_of}
use Rattle.vc_push.specs.declared.command.Command.{Command}
use Rattle.vc_refname.proofs.BrokenRules.{legal_from_is_ref_name}
use Rattle.vc_refname.specs.RefName.{is_ref_name, tracking_name}
use Rattle.vc_refname.specs.declared.fault.NameFault.TheVariants as rules
use Rattle.vc_refs.proofs.LayeredLemmas.{ref_legal}
use Rattle.vc_refs.specs.RefFault.{BlamesList, BlamesRef}
use Rattle.vc_refs.specs.RefMap.{IsListOf}
use Rattle.vc_refs.specs.Refs.{refs}
use Rattle.vc_refs.specs.declared.faults.RefFault.{RefFault}
use Rattle.vc_refs.specs.declared.faults.RefFault.TheVariants as of_refs
use Rattle.vc_object_map.specs.Store.{IsDamaged, objects}
use Rattle.vc_object_map.specs.declared.faults.StoreFault.TheVariants as of_store

-- ---- what the clone knows of a ref
no_ref : (content : FileMap) (name : List ℕ) → is_ref_name name ≡ false → refs content name ≡ None
no_ref content name e = by (refs content name) refl
  where
    by : (o : Option ObjectId) → refs content name ≡ o → o ≡ None
    by None is = refl
    by (Some id) is = absurd (true≢false (sym (and_parts (is_ref_name name) (starts_with nat_eq name (codes "refs/")) (ref_legal content name id is)).0 ∙ e))

too_long : (name : List ℕ) → 255 < length name → is_ref_name name ≡ false
too_long name long = by (is_ref_name name) refl
  where
    by : (b : Bool) → is_ref_name name ≡ b → b ≡ false
    by true e = let short = ltb-false 255 (length name) (legal_from_is_ref_name name e rules.TooLong) in absurd (omega (arith, short, long))
    by false e = refl

-- no tracking ref follows a branch whose name is too long for one
pub known_long : (content : FileMap) (name : List ℕ) → 246 < length name → zero_id ≡ known_value content name
known_long content name long = by (starts_with nat_eq name (codes "refs/heads/"))
  where
    none : refs content (tracking_name name) ≡ None
    none =
        let whole : length (tracking_name name) ≡ 20 + length (drop 11 name) = length-append (codes "refs/remotes/origin/") (drop 11 name) in
        let rest = length-drop 11 name in
        no_ref content (tracking_name name) (too_long (tracking_name name) (omega (arith, long, whole, rest)))

    by : (b : Bool) → zero_id ≡ cond b (unwrap_or (refs content (tracking_name name)) zero_id) zero_id
    by true = ap (λ o. unwrap_or o zero_id) (sym none)
    by false = refl

-- ---- lists step by step
pub commands_more : (content : FileMap) (items : List PushItem) (i : ℕ) (item : PushItem) (before now : List Command) (command : Command)
    → i < length items → item ≡ get_or items i item → now ≡ before ++ command ∷ [] → command_of command ≡ command_for content item
    → commands_of before ≡ map (command_for content) (take i items) → commands_of now ≡ map (command_for content) (take (i + 1) items)
commands_more content items i item before now command inside is pushed one so_far =
    ap commands_of pushed ∙ map-append command_of before (command ∷ []) ∙ ap (λ front. front ++ command_of command ∷ []) so_far
    ∙ ap (λ c. map (command_for content) (take i items) ++ c ∷ []) (one ∙ ap (command_for content) is) ∙ sym (map_more (command_for content) items i item inside)

-- the values that a function finds, with those of one element more
module _ {X Y : Type 0} (f : X → Option Y) (xs : List X) (i : ℕ) (x : X) (inside : i < length xs) (is : x ≡ get_or xs i x) where
  found_more : filter_map f (take (i + 1) xs) ≡ filter_map f (take i xs) ++ filter_map f (x ∷ [])
  found_more =
      ap (filter_map f) (take_more xs i x inside) ∙ filter_map-append f (take i xs) (get_or xs i x ∷ [])
      ∙ ap (λ y. filter_map f (take i xs) ++ filter_map f (y ∷ [])) (sym is)

  pub found_none : f x ≡ None → filter_map f (take (i + 1) xs) ≡ filter_map f (take i xs)
  found_none none = found_more ∙ ap (λ o. filter_map f (take i xs) ++ cons_option o []) none ∙ append-nil _

  pub found_some : (y : Y) → f x ≡ Some y → filter_map f (take (i + 1) xs) ≡ filter_map f (take i xs) ++ y ∷ []
  found_some y some = found_more ∙ ap (λ o. filter_map f (take i xs) ++ cons_option o []) some

-- ---- refusals
pub blamed_file : (content : FileMap) (name : List ℕ) (e : RefFault) → BlamesRef content name e → BlamesRefFile content e
blamed_file content name (of_refs.Stale current) h = h
blamed_file content name (of_refs.Conflict other) h = h
blamed_file content name (of_refs.BadRefFile path) h = h.1
blamed_file content name of_refs.HeadLoop h = h
blamed_file content name (of_refs.Fault fault) h = h

pub blamed_list : (content : FileMap) (e : RefFault) → BlamesList content e → BlamesRefFile content e
blamed_list content (of_refs.Stale current) h = h
blamed_list content (of_refs.Conflict other) h = h
blamed_list content (of_refs.BadRefFile path) h = h.bad
blamed_list content of_refs.HeadLoop h = h
blamed_list content (of_refs.Fault fault) h = h

-- ---- the tracking refs
tracking_starts : (b : List ℕ) → starts_with nat_eq (tracking b) (codes "refs/remotes/origin/") ≡ true
tracking_starts b = (starts_is Decides-eqb (tracking b) (codes "refs/remotes/origin/") (starts_with nat_eq (tracking b) (codes "refs/remotes/origin/")) refl).1 b refl

-- an entry that gives the value of a tracking ref
abbrev IsGiven : List (List ℕ × ObjectId) → ObjectId → Type 0
IsGiven all id = (b : List ℕ) × (find (slice_cmp nat_cmp) (tracking b) all ≡ Some id)

given_more : (name : List ℕ) (v : ObjectId) (rest : List ObjectId) (id : ObjectId) (b : Bool) → starts_with nat_eq name (codes "refs/remotes/origin/") ≡ b
    → Contains (cons_option (cond b (Some v) None) rest) id → ((starts_with nat_eq name (codes "refs/remotes/origin/") ≡ true) × (v ≡ id)) ⊎ Contains rest id
given_more name v rest id true e h =
    ⊎_elim (λ (first : Contains (v ∷ []) id). inl (e, ⊎_elim (λ none. absurd (omega (arith, none.1))) (λ same. same) (Contains-push_cases [] v id first))) inr
    (Contains-append_cases (v ∷ []) rest id h)
given_more name v rest id false e h = inr h

tracked_given : (all es : List (List ℕ × ObjectId)) → AllByRecursion (λ x. find (slice_cmp nat_cmp) x.0 all ≡ Some x.1) es → (id : ObjectId) → Contains (filter_map tracked_in es) id → IsGiven all id
tracked_given all [] found id h = absurd (omega (arith, h.1))
tracked_given all ((name, v) ∷ es) found id h =
    ⊎_elim (λ here.
    let begins = (starts_is Decides-eqb name (codes "refs/remotes/origin/") (starts_with nat_eq name (codes "refs/remotes/origin/")) refl).0 here.0 in
    (drop 20 name, ap (λ n. find (slice_cmp nat_cmp) n all) (sym begins) ∙ found.0 ∙ ap Some here.1))
    (tracked_given all es found.1 id)
    (given_more name v (filter_map tracked_in es) id (starts_with nat_eq name (codes "refs/remotes/origin/")) refl h)

given_tracked : (es : List (List ℕ × ObjectId)) (b : List ℕ) (id : ObjectId) → find (slice_cmp nat_cmp) (tracking b) es ≡ Some id → Contains (filter_map tracked_in es) id
given_tracked [] b id e = absurd (none-some id e)
given_tracked ((n, v) ∷ es) b id e = by (eq_by_cmp (slice_cmp nat_cmp) (tracking b) n) refl e (given_tracked es b id)
  where
    more : (t : Bool) → Contains (filter_map tracked_in es) id → Contains (cons_option (cond t (Some v) None) (filter_map tracked_in es)) id
    more true h = Contains-append_right (v ∷ []) (filter_map tracked_in es) id h
    more false h = h

    by : (t : Bool) → eq_by_cmp (slice_cmp nat_cmp) (tracking b) n ≡ t → cond t (Some v) (find (slice_cmp nat_cmp) (tracking b) es) ≡ Some id
        → (find (slice_cmp nat_cmp) (tracking b) es ≡ Some id → Contains (filter_map tracked_in es) id) → Contains (filter_map tracked_in ((n, v) ∷ es)) id
    by true is e later =
        let same : tracking b ≡ n = same_name (tracking b) n is in
        let starts : starts_with nat_eq n (codes "refs/remotes/origin/") ≡ true = ap (λ m. starts_with nat_eq m (codes "refs/remotes/origin/")) (sym same) ∙ tracking_starts b in
        subst (λ t. Contains (cons_option (cond t (Some v) None) (filter_map tracked_in es)) id) (sym starts) (0, omega arith, same_Some v id e)
    by false is e later = more (starts_with nat_eq n (codes "refs/remotes/origin/")) (later e)

-- the listed tracking refs give their values
pub tracked_values : (content : FileMap) (listed : List (List ℕ × ObjectId)) → IsListOf (refs content) listed → (id : ObjectId) → Contains (filter_map tracked_in listed) id ↔ IsTracked content id
tracked_values content listed list id = (
  λ h. let given = tracked_given listed listed (each_found listed list.sorted) id h in (given.0, sym (list.each (tracking given.0)) ∙ given.1),
  λ h. given_tracked listed h.0 id (list.each (tracking h.0) ∙ h.1),
)

-- ---- what is known, and what is sent
-- what a walk from more names found to be there is so of the first of them
pub closed_front : (content : FileMap) (ids others : List ObjectId) → IsClosedUnder (links_in (objects content)) (ids ++ others) → IsClosedUnder (links_in (objects content)) ids
closed_front content ids others closed id h = closed id (record { root = h.root; is_root = Contains-append_left ids others h.root h.is_root; reaches = h.reaches })

module _ (content : FileMap) (ids tracked : List ObjectId) (are : (id : ObjectId) → Contains tracked id ↔ IsTracked content id) where
  known_from : (id : ObjectId) → ReachedFrom (links_in (objects content)) tracked id → IsKnown content id
  known_from id h = record { value = h.root; tracked = (are h.root).0 h.is_root; reaches = h.reaches }

  known_to : (id : ObjectId) → IsKnown content id → ReachedFrom (links_in (objects content)) tracked id
  known_to id h = record { root = h.value; is_root = (are h.value).1 h.tracked; reaches = h.reaches }

  pub sent_less : (sent : List StoredObject)
      → ((id : ObjectId) (o : StoredObject) → object_named id sent ≡ Some o ↔ ((ReachedFrom (links_in (objects content)) ids id × ¬ ReachedFrom (links_in (objects content)) tracked id) × (objects content id ≡ Some o)))
      → AreSent content ids sent
  sent_less sent are_sent id o =
      let both = are_sent id o in (
        λ h. let r = both.0 h in ((r.0.0, λ k. r.0.1 (known_to id k)), r.1),
        λ h. both.1 ((h.0.0, λ r. h.0.1 (known_from id r)), h.1),
      )

  either_met : (id : ObjectId) → ReachedFrom (links_in (objects content)) (ids ++ tracked) id → ReachedFrom (links_in (objects content)) ids id ⊎ IsKnown content id
  either_met id h =
      ⊎_elim (λ own. inl (record { root = h.root; is_root = own; reaches = h.reaches }))
      (λ other. inr (known_from id (record { root = h.root; is_root = other; reaches = h.reaches })))
      (Contains-append_cases ids tracked h.root h.is_root)

  module _ (closed : IsClosedUnder (links_in (objects content)) ids) where
    missing : (id : ObjectId) → ReachedFrom (links_in (objects content)) (ids ++ tracked) id → links_in (objects content) id ≡ None → IsKnown content id
    missing id h none = ⊎_elim (λ own. absurd (true≢false (sym (closed id own) ∙ ap is_some none))) (λ known. known) (either_met id h)

    -- where all is there that the ids reach, what is absent is known
    pub refused_graph : (e : GraphFault) → IsTold (objects content) (IsDamaged content) (ids ++ tracked) e → IsRefusedSend content ids (from_graph e)
    refused_graph (graph.Missing id) h = (missing id h.0 h.1, absent_from_links (objects content) id h.1)
    refused_graph (graph.Store (of_store.BadObject fault)) h = h
    refused_graph (graph.Store (of_store.Absent id)) h = h
    refused_graph (graph.Store (of_store.Damaged id)) h = (either_met id h.0, h.1)
    refused_graph (graph.Store (of_store.Fault fault)) h = tt
