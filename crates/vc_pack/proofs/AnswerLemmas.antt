-- What walks and their refusals say of a node's refs.
use Rattle.std.proofs.Common.{◌≡◌, ◌⊎◌, ⊎_elim, List, [], ◌∷◌, ◌++◌, Option, Some, None, is_some, IsSome, Contains, ◌↔◌, sym, ap, subst, ◌∙◌, refl, true≢false, arith, slice_get}
use Rattle.std.proofs.lemmas.List.Elements.{Contains-append_cases, Contains-append_left, Contains-append_right}
use Rattle.std.specs.Option.{option_map}
use Rattle.std.specs.Prelude.{⊤}
use Rattle.vc_fetch.specs.declared.want.Want.{Want}
use Rattle.vc_pack.specs.Answer.{AreThoseReached, IsOurs, IsNotOurs, IsRefValue, IsCounted, IsSent, IsFirstCounted}
use Rattle.vc_pack.specs.AnswerFault.{from_store, from_graph, IsRefusedWalk, IsRefusedAnswer, IsRefusedPack}
use Rattle.vc_pack.specs.Picked.{IsFirst, IsPicked, BeginsWithFirst}
use Rattle.vc_pack.specs.declared.fault.AnswerFault.{AnswerFault}
use Rattle.vc_pack.specs.declared.fault.AnswerFault.TheVariants.{NotOurs, Incomplete, Refs, Graph, Fault}
use Rattle.vc_files.specs.FileMap.{FileMap}
use Rattle.vc_object_map.specs.Graph.{ReachedFrom}
use Rattle.vc_object_map.specs.StoreFault.{IsMet}
use Rattle.vc_graph.specs.GraphFault.{IsTold}
use Rattle.vc_object_map.specs.Overlay.{with_carried}
use Rattle.vc_graph.specs.declared.fault.GraphFault.{GraphFault}
use Rattle.vc_graph.specs.declared.fault.GraphFault.TheVariants as graph
use Rattle.vc_object_map.proofs.WalkLemmas.{Reaches-trans}
use Rattle.vc_object.specs.Decoding.{StoredObject}
use Rattle.vc_object.specs.Links.{links_of}
use Rattle.vc_object.specs.ObjectMap.{ObjectMap, links_in}
use Rattle.vc_object.specs.declared.id.ObjectId.{ObjectId}
use Rattle.vc_object_map.specs.Store.{objects, IsDamaged}
use Rattle.vc_object_map.specs.declared.faults.StoreFault.{StoreFault}
use Rattle.vc_object_map.specs.declared.faults.StoreFault.TheVariants as store

-- ---- links and objects
module _ (map : ObjectMap) (id : ObjectId) where
  -- what has no links is not there
  pub absent_from_links : links_in map id ≡ None → map id ≡ None
  unfolding links_in
  absent_from_links e = by (map id) e
    where
      by : (o : Option StoredObject) → option_map (λ (o : StoredObject). links_of o.kind o.body) o ≡ None → o ≡ None
      by None e = refl
      by (Some o) e = absurd (true≢false (ap is_some e))

  -- what has links is there
  pub there_from_links : IsSome (links_in map id) → IsSome (map id)
  unfolding links_in
  there_from_links h = by (map id) h
    where
      by : (o : Option StoredObject) → IsSome (option_map (λ (o : StoredObject). links_of o.kind o.body) o) → IsSome o
      by None h = h
      by (Some o) h = refl

-- ---- refusals
module _ (Meets : ObjectId → Type 0) (content : FileMap) where
  pub refused_store : (Met : ObjectId → Type 0) → ((y : ObjectId) → Met y → Meets y) → (e : StoreFault) → IsMet Met (IsDamaged content) e → IsRefusedWalk Meets content (from_store e)
  refused_store Met more (store.BadObject fault) h = absurd h
  refused_store Met more (store.Absent id) h = absurd h
  refused_store Met more (store.Damaged id) h = (more id h.0, h.1)
  refused_store Met more (store.Fault fault) h = tt

  pub refused_graph : (roots : List ObjectId) → ((y : ObjectId) → ReachedFrom (links_in (objects content)) roots y → Meets y) → (e : GraphFault) → IsTold (objects content) (IsDamaged content) roots e → IsRefusedWalk Meets content (from_graph e)
  refused_graph roots more (graph.Missing id) h = (more id h.0, absent_from_links (objects content) id h.1)
  refused_graph roots more (graph.Store fault) h = refused_store (ReachedFrom (links_in (objects content)) roots) more fault h

refused_more_graph : (Meets More : ObjectId → Type 0) (content : FileMap) → ((y : ObjectId) → Meets y → More y) → (e : GraphFault) → IsRefusedWalk Meets content (Graph e) → IsRefusedWalk More content (Graph e)
refused_more_graph Meets More content more (graph.Missing id) h = (more id h.0, h.1)
refused_more_graph Meets More content more (graph.Store (store.BadObject fault)) h = h
refused_more_graph Meets More content more (graph.Store (store.Absent id)) h = h
refused_more_graph Meets More content more (graph.Store (store.Damaged id)) h = (more id h.0, h.1)
refused_more_graph Meets More content more (graph.Store (store.Fault fault)) h = h

-- a walk over names that the refs reach is refused for what the refs reach
pub refused_answer : (Meets : ObjectId → Type 0) (content : FileMap) (wants : List ObjectId) → ((y : ObjectId) → Meets y → IsOurs content y) → (e : AnswerFault) → IsRefusedWalk Meets content e → IsRefusedAnswer content wants e
refused_answer Meets content wants more (NotOurs id) h = absurd h
refused_answer Meets content wants more (Incomplete id) h = h
refused_answer Meets content wants more (Refs fault) h = h
refused_answer Meets content wants more (Graph fault) h = refused_more_graph Meets (IsOurs content) content more fault h
refused_answer Meets content wants more (Fault fault) h = h

-- the first element of a list, or none of a list of none
abbrev pub IsHead : List ObjectId → Option ObjectId → Type 0
IsHead [] None = ⊤
IsHead [] (Some x) = ⊥
IsHead (y ∷ ys) None = ⊥
IsHead (y ∷ ys) (Some x) = y ≡ x

-- ---- a place in a list
module _ (xs before after : List ObjectId) (x : ObjectId) (place : xs ≡ before ++ x ∷ after) where
  placed : Contains xs x
  placed = subst (λ l. Contains l x) (sym place) (Contains-append_right before (x ∷ after) x (0, omega arith, refl))

  earlier : (y : ObjectId) → Contains before y → Contains xs y
  earlier y h = subst (λ l. Contains l y) (sym place) (Contains-append_left before (x ∷ after) y h)

-- ---- what the refs reach
module _ (content : FileMap) (values : List ObjectId) (are : (id : ObjectId) → Contains values id ↔ IsRefValue content id) where
  pub ours_from_reached : (id : ObjectId) → ReachedFrom (links_in (objects content)) values id → IsOurs content id
  ours_from_reached id h = record { value = h.root; is_value = (are h.root).0 h.is_root; reaches = h.reaches }

  -- a value of a ref is reached by it
  pub reached_from_ours : (id : ObjectId) → IsOurs content id → ReachedFrom (links_in (objects content)) values id
  reached_from_ours id h = record { root = h.value; is_root = (are h.value).1 h.is_value; reaches = h.reaches }

  -- those of the wants and the haves that the values reach are those that a ref reaches
  pub ours_of_those : (want : Want) (ids : List ObjectId) → AreThoseReached (objects content) values want ids
      → (id : ObjectId) → Contains want.wants.items id ⊎ Contains want.haves.items id → Contains ids id ↔ IsOurs content id
  ours_of_those want ids those id asked =
      let both = those id asked in
      (λ h. ours_from_reached id (both.0 h), λ h. both.1 (reached_from_ours id h))

  -- a walk over the values is refused for what a ref reaches
  pub refused_ours : (wants : List ObjectId) (e : GraphFault) → IsTold (objects content) (IsDamaged content) values e → IsRefusedAnswer content wants (from_graph e)
  refused_ours wants e told =
      refused_answer (IsOurs content) content wants (λ y h. h) (from_graph e) (refused_graph (IsOurs content) content values ours_from_reached e told)

module _ (content : FileMap) where
  -- what is reached from what the refs reach is reached from the refs
  pub ours_onward : (roots : List ObjectId) → ((x : ObjectId) → Contains roots x → IsOurs content x) → (id : ObjectId) → ReachedFrom (links_in (objects content)) roots id → IsOurs content id
  ours_onward roots all id h =
      let root = all h.root h.is_root in
      record { value = root.value; is_value = root.is_value; reaches = Reaches-trans (links_in (objects content)) root.reaches h.reaches }

  pub ours_of_both : (wants counted : List ObjectId) → ((x : ObjectId) → Contains wants x → IsOurs content x) → ((x : ObjectId) → Contains counted x → IsOurs content x)
      → (id : ObjectId) → ReachedFrom (links_in (objects content)) (wants ++ counted) id → IsOurs content id
  ours_of_both wants counted wanted held = ours_onward (wants ++ counted) (λ x h. ⊎_elim (wanted x) (held x) (Contains-append_cases wants counted x h))

  module _ (ours haves counted : List ObjectId) (all : (id : ObjectId) → Contains haves id → Contains ours id ↔ IsOurs content id) (picked : IsPicked (Contains ours) haves counted) where
    pub counted_is : (id : ObjectId) → Contains counted id → IsCounted content haves id
    counted_is id h =
        let both = (picked.members id).0 h in
        record { is_have = both.0; ours = (all id both.0).0 both.1 }

    pub is_counted : (id : ObjectId) → IsCounted content haves id → Contains counted id
    is_counted id h = (picked.members id).1 (h.is_have, (all id h.is_have).1 h.ours)

    -- what is sent is what the wants reach less what the counted haves reach
    pub sent_from : (wants : List ObjectId) (id : ObjectId) → ReachedFrom (links_in (objects content)) wants id × ¬ ReachedFrom (links_in (objects content)) counted id → IsSent content wants haves id
    sent_from wants id h = record { wanted = h.0; lacked = λ have counts r. h.1 (record { root = have; is_root = is_counted have counts; reaches = r }) }

    pub from_sent : (wants : List ObjectId) (id : ObjectId) → IsSent content wants haves id → ReachedFrom (links_in (objects content)) wants id × ¬ ReachedFrom (links_in (objects content)) counted id
    from_sent wants id h = (h.wanted, λ r. h.lacked r.root (counted_is r.root r.is_root) r.reaches)

    -- a walk over wants that are ours and the counted haves is refused for what a ref reaches
    pub refused_sent : (wants : List ObjectId) → ((id : ObjectId) → Contains wants id → IsOurs content id) → (e : GraphFault) → IsTold (objects content) (IsDamaged content) (wants ++ counted) e
        → IsRefusedAnswer content wants (from_graph e)
    refused_sent wants wanted e told = refused_answer (IsOurs content) content wants (λ y h. h) (from_graph e)
        (refused_graph (IsOurs content) content (wants ++ counted) (ours_of_both wants counted wanted (λ id h. (counted_is id h).ours)) e told)

    -- the first that was picked is the first that counts
    pub first_counted : (first : Option ObjectId) → IsHead counted first → IsFirstCounted content haves first
    first_counted first head = by counted picked.members picked.first first head
      where
        by : (ids : List ObjectId) → ((id : ObjectId) → Contains ids id ↔ (Contains haves id × Contains ours id)) → BeginsWithFirst (Contains ours) haves ids → (first : Option ObjectId) → IsHead ids first → IsFirstCounted content haves first
        by [] members begins None head = λ have counts. let none = (members have).1 (counts.is_have, (all have counts.is_have).1 counts.ours) in omega (arith, none.1)
        by [] members begins (Some x) head = absurd head
        by (y ∷ ys) members begins None head = absurd head
        by (y ∷ ys) members begins (Some x) head = record {
          before = begins.before;
          after = begins.after;
          place = begins.place ∙ ap (λ z. begins.before ++ z ∷ begins.after) head;
          others = λ z h ours_. begins.others z h ((all z (earlier haves begins.before begins.after y begins.place z h)).1 ours_);
          here = subst (IsOurs content) head ((all y (placed haves begins.before begins.after y begins.place)).0 begins.here);
        }

-- ---- exits
-- the first name that is not among ours is the first that no ref reaches
pub first_not_ours : (content : FileMap) (ours wants : List ObjectId) → ((id : ObjectId) → Contains wants id → Contains ours id ↔ IsOurs content id) → (id : ObjectId)
    → IsFirst (λ x. ¬ Contains ours x) (Contains ours) wants id → IsFirst (IsNotOurs content) (IsOurs content) wants id
first_not_ours content ours wants all id f = record {
  before = f.before;
  after = f.after;
  place = f.place;
  others = λ y h. (all y (earlier wants f.before f.after id f.place y h)).0 (f.others y h);
  here = λ h. f.here ((all id (placed wants f.before f.after id f.place)).1 h);
}

pub head_of_first : (ids : List ObjectId) (first : Option ObjectId) → first ≡ slice_get ids 0 → IsHead ids first
head_of_first [] None e = tt
head_of_first [] (Some x) e = true≢false (ap is_some e)
head_of_first (y ∷ ys) None e = true≢false (sym (ap is_some e))
head_of_first (y ∷ ys) (Some x) e = cc e

-- a judgement is refused for what its walk meets
pub refused_pack : (content : FileMap) (carried : ObjectMap) (wants : List ObjectId) (e : StoreFault)
    → IsMet (ReachedFrom (links_in (with_carried (objects content) carried)) wants) (IsDamaged content) e → IsRefusedPack content carried wants (from_store e)
refused_pack content carried wants (store.BadObject fault) h = h
refused_pack content carried wants (store.Absent id) h = h
refused_pack content carried wants (store.Damaged id) h = h
refused_pack content carried wants (store.Fault fault) h = tt
