-- The pack that a want is answered with: it can be read as it is written, and it is what the machine sends.
use Rattle.std.proofs.Common.{◌≡◌, inl, inr, ℕ, ◌≤◌, arith, true, List, ◌∷◌, ◌++◌, length, map, Option, Some, None, Ok, refl, sym, ap, ◌∙◌, subst, Contains, []}
use Rattle.std.specs.Prelude.{is_some, option_map}
use Rattle.std.specs.FinMap.{get}
use Rattle.std.specs.List.{AllByRecursion}
use Rattle.std.proofs.lemmas.List.Elements.{Contains-append_right}
use Rattle.std.proofs.lemmas.Option.{same_Some}
use Rattle.vc_pack.specs.Answer.{IsFirstCounted, IsNotOurs, IsOurs, IsRefValue, IsSent}
use Rattle.vc_fetch.specs.Pack.{IsAckId, IsWrittenPack, PackText, is_object}
use Rattle.vc_fetch.specs.Want.{AreIdLines, SpellsWant, WantText}
use Rattle.vc_fetch.proofs.Packs.{ok_object}
use Rattle.vc_files.specs.FileMap.{FileMap}
use Rattle.vc_format.specs.Git.{bytes_of_id, id_of_bytes}
use Rattle.vc_object_map.specs.Graph as graph
use Rattle.vc_object_map.specs.Graph.Reaches.{itself}
use Rattle.vc_rules.proofs.OnceLemmas.{some_once}
use Rattle.vc_message.proofs.MachineTexts.{all_in}
use Rattle.vc_message.specs.Machine.{IsPack}
use Rattle.vc_model.specs.Message.Message.{Pack}
use Rattle.vc_model.specs.Node.{IsDifference, ReachedFrom}
use Rattle.vc_model.specs.Object.{Id, Objects, stored}
use Rattle.vc_model.specs.Reach.{Links, Reaches}
use Rattle.vc_model.specs.Refs.{Head as MachineHead}
use Rattle.vc_model.specs.Refs.Head.{Detached, OnBranch}
use Rattle.vc_model.specs.Repository.{IsBare, IsSound, Repository}
use Rattle.vc_model.specs.Shared as shared
use Rattle.vc_local.specs.Machine.{Spells, machine_head}
use Rattle.vc_local.specs.Shown.{shown}
use Rattle.vc_object.specs.Decoding.{StoredObject}
use Rattle.vc_object.specs.Lines.{IsId}
use Rattle.vc_object.specs.Object.{IsObject}
use Rattle.vc_object.specs.ObjectMap.{links_in}
use Rattle.vc_object.specs.declared.id.ObjectId.{ObjectId}
use Rattle.vc_pkt.proofs.CarriedOnce.{each_named}
use Rattle.vc_pkt.specs.Carried.{object_named, stored_name}
use Rattle.vc_pkt.specs.Line.{LineText, flush, text}
use Rattle.vc_refs.specs.declared.heads.Head.{Head}
use Rattle.vc_refs.specs.declared.heads.Head.TheVariants as head
use Rattle.vc_rules.proofs.CarriedLemmas.{each_is_brought}
use Rattle.vc_rules.proofs.ReachLemmas.{path_from, path_to, id_among, bytes_among}
use Rattle.vc_rules.proofs.RefLemmas.{that_id}
use Rattle.vc_rules.proofs.SoundLemmas.{objects_sound}
use Rattle.vc_rules.specs.Git.{git, stored_of}
use Rattle.vc_shared.proofs.PushingTexts.{read_id}
use Rattle.vc_shared.specs.Serving.{IsPackFor}
use Rattle.vc_object_map.specs.Store.{objects}

-- ---- ids of a want that was read
have_ids : (word : List ℕ) (ids : List ObjectId) (lines : List LineText) → AreIdLines word ids lines → AllByRecursion IsId ids
have_ids word [] lines h = tt
have_ids word (id ∷ ids) [] h = absurd h
have_ids word (id ∷ ids) (flush ∷ lines) h = absurd h
have_ids word (id ∷ ids) (text line ∷ lines) h = (read_id h.0.digits id h.0.writes, have_ids word ids lines h.1)

one_of : (P : ObjectId → Type 0) (before after : List ObjectId) (id : ObjectId) → AllByRecursion P (before ++ id ∷ after) → P id
one_of P [] after id h = h.0
one_of P (x ∷ before) after id h = one_of P before after id h.1

module _ (content : FileMap) (want : WantText) (t : PackText) (answers : IsPackFor content want t) where
  ack_is_id : AllByRecursion IsId want.haves → (ack : Option ObjectId) → IsFirstCounted content want.haves ack → IsAckId ack
  ack_is_id ids None first = tt
  ack_is_id ids (Some have) first = one_of IsId first.before first.after have (subst (AllByRecursion IsId) first.place ids)

  is_sound : (o : StoredObject) → object_named (stored_name o) t.objects ≡ Some o → IsObject o.kind o.body
  is_sound o e = objects_sound content (stored_name o) o ((answers.sent (stored_name o) o).0 e).1

  all_are : (P : StoredObject → Type 0) → ((o : StoredObject) → IsObject o.kind o.body → P o) → (os : List StoredObject) → AllByRecursion (λ o. object_named (stored_name o) t.objects ≡ Some o) os → AllByRecursion P os
  all_are P holds [] found = tt
  all_are P holds (o ∷ os) found = (holds o (is_sound o found.0), all_are P holds os found.1)

  grammar : AllByRecursion (λ o. is_object o ≡ true) t.objects
  grammar = all_are (λ o. is_object o ≡ true) (λ o sound. sym (ok_object o.kind o.body sound)) t.objects (each_named t.objects answers.sorted)

  -- it is read as it is written
  pub written_pack : (lines : List LineText) → SpellsWant want lines → IsWrittenPack t
  written_pack lines read = record {
    ack = ack_is_id (have_ids _ want.haves read.there read.held) t.ack answers.first;
    set = record { sorted = answers.sorted; small = all_are (λ o. length o.body ≤ 16777216) (λ o sound. sound.size) t.objects (each_named t.objects answers.sorted) };
    grammar = grammar;
  }

  -- the machine's objects that it brings
  pub brought : Objects
  brought = (each_is_brought (Ok t.objects)).0

  pub machine_pack : IsPack (Pack (option_map bytes_of_id t.ack) brought) t
  unfolding brought
  machine_pack = record { objects = brought; is = refl; brought = (each_is_brought (Ok t.objects)).1 }

  -- what is found in them is what the pack has
  pub brought_is : (x : Id) → option_map stored_of (get brought x) ≡ object_named (id_of_bytes x) t.objects
  unfolding brought
  brought_is x = (each_is_brought (Ok t.objects)).1 x ∙ sym (all_in t.objects (id_of_bytes x) grammar)

-- ---- lists of ids
all_bytes : (P : Id → Type 0) (ids : List ObjectId) → ((id : ObjectId) → Contains ids id → P id.0) → AllByRecursion P (map bytes_of_id ids)
all_bytes P [] h = tt
all_bytes P (id ∷ ids) h = (h id (0, omega arith, refl), all_bytes P ids (λ x among. h x (Contains-append_right (id ∷ []) ids x among)))

-- ---- what is reached
module _ (content : FileMap) (r : Repository) (spells : Spells (shown content) r) where
  reach_to : (x y : Id) → Reaches (Links git (stored r.objects)) x y → graph.Reaches (links_in (objects content)) (id_of_bytes x) (id_of_bytes y)
  reach_to x y p = path_to (objects content) (stored r.objects) spells.objects p.0 x x y itself p.1

  reach_from : (x y : ObjectId) → graph.Reaches (links_in (objects content)) x y → Reaches (Links git (stored r.objects)) x.0 y.0
  reach_from x y h = path_from (objects content) (stored r.objects) spells.objects x y h

  -- what a ref reaches is ours
  ours_to : (x : Id) → shared.IsOurs git r x → IsOurs content (id_of_bytes x)
  ours_to x (y, (n, found), path) = record { value = id_of_bytes y; is_value = inl (n, spells.refs n ∙ ap (option_map id_of_bytes) found); reaches = reach_to y x path }

  module _ (bare : IsBare git r) where
    no_branch : (at : Head) (id : ObjectId) → r.head ≡ machine_head at → at ≡ head.Id id → ⊥
    no_branch at id is same = let h : ◌≡◌ {A = MachineHead} (OnBranch bare.on_branch.0) (Detached id.0) = sym bare.on_branch.1 ∙ is ∙ ap machine_head same in cc h

    -- and nothing else is, where HEAD is a branch
    pub ours_from : (id : ObjectId) → IsOurs content id → shared.IsOurs git r id.0
    ours_from id ours = by ours.is_value
      where
        by : IsRefValue content ours.value → shared.IsOurs git r id.0
        by (inl (n, found)) = (ours.value.0, (n, that_id (get r.refs n) ours.value.0 (sym (spells.refs n) ∙ found)), reach_from ours.value id ours.reaches)
        by (inr detached) = absurd (no_branch spells.head ours.value spells.head_is (same_Some spells.head (head.Id ours.value) (sym spells.head_shown ∙ detached)))

    pub not_ours : (id : ObjectId) → IsNotOurs content id → ¬ shared.IsOurs git r id.0
    not_ours id other ours = other (ours_to id.0 ours)

    -- ---- the first have that counts
    first_none : (haves : List ObjectId) → ((have : ObjectId) → Contains haves have → ¬ IsOurs content have) → shared.IsFirstCounted git r (map bytes_of_id haves) None
    first_none [] none = refl
    first_none (have ∷ haves) none =
        inr (not_ours have (none have (0, omega arith, refl)), first_none haves (λ x among. none x (Contains-append_right (have ∷ []) haves x among)))

    first_some : (before after : List ObjectId) (have : ObjectId) → ((x : ObjectId) → Contains before x → IsNotOurs content x) → IsOurs content have
        → shared.IsFirstCounted git r (map bytes_of_id (before ++ have ∷ after)) (Some have.0)
    first_some [] after have others here = inl (ours_from have here, refl)
    first_some (x ∷ before) after have others here =
        inr (not_ours x (others x (0, omega arith, refl)), first_some before after have (λ y among. others y (Contains-append_right (x ∷ []) before y among)) here)

    pub machine_first : (haves : List ObjectId) (ack : Option ObjectId) → IsFirstCounted content haves ack → shared.IsFirstCounted git r (map bytes_of_id haves) (option_map bytes_of_id ack)
    machine_first haves None none = first_none haves (λ have among ours. none have (record { is_have = among; ours = ours }))
    machine_first haves (Some have) first =
        subst (λ (hs : List ObjectId). shared.IsFirstCounted git r (map bytes_of_id hs) (Some have.0)) (sym first.place) (first_some first.before first.after have first.others first.here)

    -- ---- what is sent
    module _ (want : WantText) (t : PackText) (answers : IsPackFor content want t) where
      abbrev pub Wanted : Id → Type 0
      Wanted x = Contains (map bytes_of_id want.wants) x

      abbrev pub Lacked : Id → Type 0
      Lacked x = Contains (map bytes_of_id want.haves) x × shared.IsOurs git r x

      sent_to : (x : Id) → IsSent content want.wants want.haves (id_of_bytes x) → ReachedFrom git (stored r.objects) Wanted x × (¬ ReachedFrom git (stored r.objects) Lacked x)
      sent_to x sent = (
        (sent.wanted.root.0, bytes_among want.wants sent.wanted.root sent.wanted.is_root, reach_from sent.wanted.root (id_of_bytes x) sent.wanted.reaches),
        λ (h, (among, ours), path). sent.lacked (id_of_bytes h) (record { is_have = id_among want.haves h among; ours = ours_to h ours }) (reach_to h x path),
      )

      sent_from : (x : Id) → ReachedFrom git (stored r.objects) Wanted x → (¬ ReachedFrom git (stored r.objects) Lacked x) → IsSent content want.wants want.haves (id_of_bytes x)
      sent_from x (w, among, path) lacked = record {
        wanted = record { root = id_of_bytes w; is_root = id_among want.wants w among; reaches = reach_to w x path };
        lacked = λ have counted reaches. lacked (have.0, (bytes_among want.haves have counted.is_have, ours_from have counted.ours), reach_from have (id_of_bytes x) reaches);
      }

      pub machine_sent : IsDifference git r.objects Wanted Lacked (brought content want t answers)
      machine_sent = record {
        only = λ x o found.
            let sent = (answers.sent (id_of_bytes x) (stored_of o)).0 (sym (brought_is content want t answers x) ∙ ap (option_map stored_of) found) in
            let reached = sent_to x sent.0 in
            (some_once (get r.objects x) (Some o) (sym (spells.objects x) ∙ sent.1), reached.0, reached.1);
        all = λ x o found wanted lacked.
            some_once (get (brought content want t answers) x) (Some o)
            (brought_is content want t answers x ∙ (answers.sent (id_of_bytes x) (stored_of o)).1 (sent_from x wanted lacked, spells.objects x ∙ ap (option_map stored_of) found));
      }

      pub machine_wants : AllByRecursion (shared.IsOurs git r) (map bytes_of_id want.wants)
      machine_wants = all_bytes (shared.IsOurs git r) want.wants (λ id among. ours_from id (answers.ours id among))

    -- ---- over a sound repository each object that a ref reaches is there
    pub ours_there : IsSound git r → (id : ObjectId) → IsOurs content id → is_some (objects content id) ≡ true
    ours_there sound id ours = by (ours_from id ours)
      where
        by : shared.IsOurs git r id.0 → is_some (objects content id) ≡ true
        by (y, (n, found), path) = let t = (sound.refs n y found).closed.there id.0 path in ap is_some (spells.objects id.0 ∙ ap (option_map stored_of) t.1)
