-- What a call of an exchange leaves of a clone's own.
use Rattle.std.proofs.Common.{◌≡◌, ◌≢◌, ◌⊎◌, inl, inr, ℕ, zero, suc, List, [], ◌∷◌, ◌++◌, Option, Some, None, refl, sym, ap, ◌∙◌, subst, take}
use Rattle.std.specs.FinMap.{get, insert, entries, empty}
use Rattle.std.specs.Cmp.Lexicographic.{nat_list_cmp_total}
use Rattle.std.proofs.lemmas.Option.{same_Some}
use Rattle.vc_model.specs.Object.{Id, Format, Objects, Lookup, stored, over}
use Rattle.vc_model.specs.Reach.{HasParent, IsAncestor}
use Rattle.vc_model.specs.Refs.{RefName, Refs, tracking, IsTag, IsTrackingRef}
use Rattle.vc_model.specs.Repository.{Repository, Change, changed, changed_all, with_objects, Effect, no_effect, AllAdded, SomeAdded, StopsWithin}
use Rattle.vc_model.specs.Repository.Change.{SetRefs}
use Rattle.vc_model.specs.Message.{Message}
use Rattle.vc_model.specs.Message.Message.{ListRefs, Advert, Want, Pack, Push, Report, Error}
use Rattle.vc_model.specs.Node.{Answer, Deed, Ends}
use Rattle.vc_model.specs.Node.Answer.{Did, Declined, Fault}
use Rattle.vc_model.specs.Clone.{Awaited, CloneNode, Task, Moves, MovesAny, MovesBranch, MovesTag, Receives, accepted_ids}
use Rattle.vc_model.specs.Rules.{Rules}
use Rattle.vc_model.specs.CloneCall.{CloneAnswers, CloneCall, CloneObeys, Obeys}
use Rattle.vc_model.specs.CloneCall.CloneCall.{Command, Receive, Asks, Prune, Open}
use Rattle.vc_model.specs.CloneCall.CloneAnswers.{down, asked, refused, obeyed, pruned, opened, faulted}
use Rattle.vc_model.proofs.Maps.{insert_same, insert_other, same_key, bytes_same}
use Rattle.vc_model.proofs.Reaching.{Extends, reaches-trans, reaches-steps}
use Rattle.vc_model.proofs.Sound.{all_extends, changed_all-objects, over_extends}
use Rattle.vc_model.proofs.Tracking.{tag_apart}
use Rattle.vc_trail.specs.Trail.{IsExchanged, IsStart, clone_after}
use Rattle.vc_trail.specs.Laws.{KeepsClone, TrailKeeps}
use Rattle.vc_trail.proofs.Steps.{start_cases}

same_value : (o : Option Id) (x y : Id) → o ≡ Some x → o ≡ Some y → x ≡ y
same_value o x y e f = same_Some x y (sym e ∙ f)

none_value : {P : Type 0} (o : Option Id) (x : Id) → o ≡ None → o ≡ Some x → P
none_value o x e f = absurd (let g : ◌≡◌ {A = Option Id} None (Some x) = sym e ∙ f in cc)

module _ (fmt : Format) where
  -- an ancestor in f is one in g
  ancestor_grows : (f g : Lookup) (x y : Id) → Extends f g → IsAncestor fmt f x y → IsAncestor fmt g x y
  ancestor_grows f g x y e p = reaches-steps (HasParent fmt f) (HasParent fmt g)
      (λ z w s. record { object = s.object; found = e.each z s.object s.found; commit = s.commit; parent = s.parent }) y x p

  -- ---- refs that move

  record Follow (at : Lookup) (old new : Refs) : Type 0 where
    others : (n : RefName) → (¬ IsTrackingRef n) → (get new n ≡ get old n) ⊎ (IsTag n × (get old n ≡ None))
    forward : (b : List ℕ) (x : Id) → get old (tracking b) ≡ Some x → (y : Id) × (get new (tracking b) ≡ Some y) × IsAncestor fmt at x y

  follow_same : (at : Lookup) (refs : Refs) → Follow at refs refs
  follow_same at refs = record { others = λ n no. inl refl; forward = λ b x g. (x, g, ([], refl)) }

  follow_then : (at : Lookup) (a b c : Refs) → Follow at a b → Follow at b c → Follow at a c
  follow_then at a b c f g = record {
    others = λ n no. elim (g.others n no) [
      | inl e ↦ elim (f.others n no) [ inl d ↦ inl (e ∙ d) | inr d ↦ inr d ]
      | inr e ↦ elim (f.others n no) [ inl d ↦ inr (e.0, sym d ∙ e.1) | inr d ↦ inr d ]
    ];
    forward = λ n x p.
        let y = f.forward n x p in
        let z = g.forward n y.0 y.1 in
        (z.0, z.1, reaches-trans (HasParent fmt at) z.0 y.0 x z.2 y.2);
  }

  follow_grows : (f g : Lookup) (a b : Refs) → Extends f g → Follow f a b → Follow g a b
  follow_grows f g a b e h = record { others = h.others; forward = λ n x p. let y = h.forward n x p in (y.0, y.1, ancestor_grows f g x y.0 e y.2) }

  -- a tracking ref is set
  branch_follow : (at : Lookup) (refs : Refs) (n : RefName) (x : Id) (t : RefName) → MovesBranch fmt at refs n x t → Follow at refs (insert refs t x)
  branch_follow at refs n x t m = record {
    others = λ k no. inl (insert_other nat_list_cmp_total bytes_same refs t x k (λ e. no (m.name, e ∙ m.tracking_is)));
    forward = λ b v g. elim (same_key nat_list_cmp_total bytes_same (tracking b) t) [
      | inl e ↦ (x, ap (get (insert refs t x)) e ∙ insert_same nat_list_cmp_total bytes_same refs t x, moved v (ap (get refs) (sym e) ∙ g) m.forward)
      | inr e ↦ (v, insert_other nat_list_cmp_total bytes_same refs t x (tracking b) e ∙ g, ([], refl))
    ];
  }
    where
      moved : (v : Id) → get refs t ≡ Some v → ((get refs t ≡ None) ⊎ ((u : Id) × (get refs t ≡ Some u) × (u ≢ x) × IsAncestor fmt at u x)) → IsAncestor fmt at v x
      moved v g (inl none) = none_value (get refs t) v none g
      moved v g (inr f) = subst (λ u. IsAncestor fmt at u x) (same_value (get refs t) f.0 v f.1 g) f.3

  -- a tag that was not there is
  tag_follow : (at : Lookup) (refs : Refs) (n : RefName) (x : Id) (t : RefName) → MovesTag fmt at refs n x t → Follow at refs (insert refs t x)
  tag_follow at refs n x t m = record {
    others = λ k no. elim (same_key nat_list_cmp_total bytes_same k t) [
      | inl e ↦ inr ((m.name, e ∙ (m.same ∙ m.tag_is)), ap (get refs) e ∙ m.absent)
      | inr e ↦ inl (insert_other nat_list_cmp_total bytes_same refs t x k e)
    ];
    forward = λ b v g. (v, insert_other nat_list_cmp_total bytes_same refs t x (tracking b) (λ e. tag_apart m.name b (sym m.tag_is ∙ (sym m.same ∙ sym e))) ∙ g, ([], refl));
  }

  any_follow : (at : Lookup) (refs : Refs) (n : RefName) (x : Id) (t : RefName) → MovesAny fmt at refs n x t → Follow at refs (insert refs t x)
  any_follow at refs n x t (inl m) = branch_follow at refs n x t m
  any_follow at refs n x t (inr m) = tag_follow at refs n x t m

  -- Changes of which each sets a ref so.
  abbrev Follows : Lookup → Refs → List Change → Type 0
  Follows at refs [] = Unit {0}
  Follows at refs (c ∷ cs) = (t : RefName) × (x : Id) × (c ≡ SetRefs ((t, x) ∷ [])) × Follow at refs (insert refs t x) × Follows at (insert refs t x) cs

  moves_follow : (at : Lookup) (may : Refs → RefName → Id → RefName → Type 0) → ((refs : Refs) (n : RefName) (x : Id) (t : RefName) → may refs n x t → Follow at refs (insert refs t x))
      → (refs : Refs) (rs : List (RefName × Id)) (cs : List Change) → Moves may refs rs cs → Follows at refs cs
  moves_follow at may each refs [] cs m = subst (Follows at refs) (sym m) tt
  moves_follow at may each refs (r ∷ rs) cs (inl m) = subst (Follows at refs) (sym m.3) (m.0, r.1, refl, each refs r.0 r.1 m.0 m.2, moves_follow at may each (insert refs m.0 r.1) rs m.1 m.4)
  moves_follow at may each refs (r ∷ rs) cs (inr m) = moves_follow at may each refs rs cs m.1

  front_follows : (at : Lookup) (k : ℕ) (refs : Refs) (cs : List Change) → Follows at refs cs → Follows at refs (take k cs)
  front_follows at zero refs cs h = tt
  front_follows at (suc k) refs [] h = tt
  front_follows at (suc k) refs (c ∷ cs) h = (h.0, h.1, h.2, h.3, front_follows at k (insert refs h.0 h.1) cs h.4)

  -- What such changes leave beside the objects.
  record Leaves (at : Lookup) (old new : Repository) : Type 0 where
    refs : Follow at old.refs new.refs
    head : new.head ≡ old.head
    index : new.index ≡ old.index

  changes_leave : (at : Lookup) (cs : List Change) (r : Repository) → Follows at r.refs cs → Leaves at r (changed_all cs r)
  changes_leave at [] r h = record { refs = follow_same at r.refs; head = refl; index = refl }
  changes_leave at (c ∷ cs) r h =
      let set : Repository = changed (SetRefs ((h.0, h.1) ∷ [])) r in
      let more : Leaves at set (changed_all cs set) = changes_leave at cs set h.4 in
      subst (λ (c : Change). Leaves at r (changed_all cs (changed c r))) (sym h.2)
      (record { refs = follow_then at r.refs set.refs (changed_all cs set).refs h.3 more.refs; head = more.head; index = more.index })

  -- ---- an effect

  keeps_same : (r : Repository) → KeepsClone fmt r r
  keeps_same r = record { objects = λ x o g. g; head = refl; index = refl; others = λ n no. inl refl; forward = λ b x g. (x, g, ([], refl)) }

  pub keeps_then : (a b c : Repository) → KeepsClone fmt a b → KeepsClone fmt b c → KeepsClone fmt a c
  keeps_then a b c f g =
      let early : Follow (stored b.objects) a.refs b.refs = record { others = f.others; forward = f.forward } in
      let late : Follow (stored c.objects) b.refs c.refs = record { others = g.others; forward = g.forward } in
      let all = follow_then (stored c.objects) a.refs b.refs c.refs (follow_grows (stored b.objects) (stored c.objects) a.refs b.refs (record { each = g.objects }) early) late in
      record { objects = λ x o p. g.objects x o (f.objects x o p); head = g.head ∙ f.head; index = g.index ∙ f.index; others = all.others; forward = all.forward }

  -- What an event does: it moves refs over what is there once its objects are.
  record MovesRefs (r : Repository) (e : Effect) : Type 0 where
    at : Lookup
    follows : Follows at r.refs e.changes
    extends : (s : Objects) → AllAdded r.objects e.objects s → Extends at (stored s)

  leaves_keep : (r new : Repository) (at : Lookup) (s : Objects) → new.objects ≡ s → Extends (stored r.objects) (stored s) → Extends at (stored s) → Leaves at r new → KeepsClone fmt r new
  leaves_keep r new at s same more found l =
      let refs : Follow (stored new.objects) r.refs new.refs = subst (λ (s : Objects). Follow (stored s) r.refs new.refs) (sym same) (follow_grows at (stored s) r.refs new.refs found l.refs) in
      record { objects = λ x o g. ap (λ (s : Objects). get s x) same ∙ more.each x o g; head = l.head; index = l.index; others = refs.others; forward = refs.forward }

  all_kept : (r new : Repository) (e : Effect) (cs : List Change) (s : Objects) (m : MovesRefs r e) → Follows m.at r.refs cs → AllAdded r.objects e.objects s → new ≡ changed_all cs (with_objects r s) → KeepsClone fmt r new
  all_kept r new e cs s m follows added is =
      let l : Leaves m.at (with_objects r s) (changed_all cs (with_objects r s)) = changes_leave m.at cs (with_objects r s) follows in
      subst (λ (q : Repository). KeepsClone fmt r q) (sym is)
      (leaves_keep r (changed_all cs (with_objects r s)) m.at s (changed_all-objects cs (with_objects r s)) (all_extends r.objects e.objects s added) (m.extends s added)
      (record { refs = l.refs; head = l.head; index = l.index }))

  some_kept : (r : Repository) (c s : Objects) → SomeAdded r.objects c s → KeepsClone fmt r (with_objects r s)
  some_kept r c s a = record {
    objects = λ x o g. elim (a.each x) [ inl e ↦ e ∙ g | inr e ↦ e ∙ (over_extends r.objects c).each x o g ];
    head = refl;
    index = refl;
    others = λ n no. inl refl;
    forward = λ b x g. (x, g, ([], refl));
  }

  ends_kept : (a : Answer) (old new : CloneNode) (d : Deed Awaited) → MovesRefs old.repository d.effect → Ends a old d new → KeepsClone fmt old.repository new.repository
  ends_kept (Did y) old new d m e = all_kept old.repository new.repository d.effect d.effect.changes e.0.0 m m.follows e.0.1 e.0.2
  ends_kept (Declined n) old new d m e = absurd e
  ends_kept (Fault f) old new d m e = cut e.0
    where
      cut : StopsWithin old.repository d.effect new.repository → KeepsClone fmt old.repository new.repository
      cut (inl c) = subst (λ (q : Repository). KeepsClone fmt old.repository q) (sym c.2) (some_kept old.repository d.effect.objects c.0 c.1)
      cut (inr c) = all_kept old.repository new.repository d.effect (take c.1 d.effect.changes) c.0 m (front_follows m.at c.1 old.repository.refs d.effect.changes m.follows) c.2 c.3

  -- ---- what a call does

  moves_none : (r : Repository) → MovesRefs r no_effect
  moves_none r = record { at = stored r.objects; follows = tt; extends = λ s added. all_extends r.objects empty s added }

  message_moves : (r : Repository) (a : Awaited) (m : Message) (d : Deed Awaited) → Receives fmt r a m d → MovesRefs r d.effect
  message_moves r a (Advert head refs) d is = elim (is.3) [
    | inl k ↦ subst (λ (d : Deed Awaited). MovesRefs r d.effect) (sym k.1) (moves_none r)
    | inr k ↦ subst (λ (d : Deed Awaited). MovesRefs r d.effect) (sym k.1.deed) (record {
      at = stored r.objects;
      follows = moves_follow (stored r.objects) (MovesAny fmt (stored r.objects)) (any_follow (stored r.objects)) r.refs (entries refs) k.1.changes k.1.moves;
      extends = λ s added. all_extends r.objects empty s added;
    })
  ]
  message_moves r a (Pack ack s) d is = subst (λ (d : Deed Awaited). MovesRefs r d.effect) (sym is.4.deed) (record {
    at = over r.objects s;
    follows = moves_follow (over r.objects s) (MovesAny fmt (over r.objects s)) (any_follow (over r.objects s)) r.refs (entries is.1) is.4.changes is.4.moves;
    extends = λ t added. record { each = λ x o g. added.each x ∙ g };
  })
  message_moves r a (Report fault told) d is = subst (λ (d : Deed Awaited). MovesRefs r d.effect) (sym is.2) (record {
    at = stored r.objects;
    follows = moves_follow (stored r.objects) (MovesBranch fmt (stored r.objects)) (branch_follow (stored r.objects)) r.refs (accepted_ids told) is.0 is.1;
    extends = λ s added. all_extends r.objects empty s added;
  })
  message_moves r a ListRefs d is = absurd is
  message_moves r a (Want wants haves) d is = absurd is
  message_moves r a (Push atomic fault cs s) d is = absurd is
  message_moves r a (Error text) d is = absurd is

  module _ (rules : Rules fmt) where
    starts : (r : Repository) (a : Awaited) (d : Deed Awaited) (t : Task) → Obeys fmt rules r a t d → IsStart t → MovesRefs r d.effect
    starts r a d t does start = start_cases (λ (t : Task). Obeys fmt rules r a t d → MovesRefs r d.effect)
        (λ is. subst (λ (d : Deed Awaited). MovesRefs r d.effect) (sym is) (moves_none r))
        (λ atomic items is. subst (λ (d : Deed Awaited). MovesRefs r d.effect) (sym is.2.4) (moves_none r)) t start does

    call_moves : (r : Repository) (a : Awaited) (e : CloneCall) (d : Deed Awaited) → IsExchanged fmt e → CloneObeys fmt rules r a e d → MovesRefs r d.effect
    call_moves r a (Command t) d is does = starts r a d t does is
    call_moves r a (Receive m) d is does = message_moves r a m d does
    call_moves r a (Asks q) d is does = absurd does
    call_moves r a Prune d is does = absurd does
    call_moves r a Open d is does = absurd does

    same_kept : (old new : CloneNode) → new.repository ≡ old.repository → KeepsClone fmt old.repository new.repository
    same_kept old new is = subst (λ (q : Repository). KeepsClone fmt old.repository q) (sym is) (keeps_same old.repository)

    pub turn_kept : (old new : CloneNode) (e : CloneCall) (a : Answer) (sends : Option Message) → IsExchanged fmt e → CloneAnswers fmt rules old e a new sends → KeepsClone fmt old.repository new.repository
    turn_kept old new e a sends is k = elim k [
      | down off other answer same none ↦ same_kept old new (ap (λ (n : CloneNode). n.repository) same)
      | asked w q up asks tells same none ↦ same_kept old new (ap (λ (n : CloneNode). n.repository) same)
      | refused w n up why answer same none ↦ same_kept old new (ap (λ (n : CloneNode). n.repository) same)
      | obeyed w d up does ends sent ↦ ends_kept a old new d (call_moves old.repository w e d is does) ends
      | pruned w up asks ends none ↦ absurd (subst (IsExchanged fmt) asks is)
      | opened asks ends none ↦ absurd (subst (IsExchanged fmt) asks is)
      | faulted w f up other answer same none ↦ same_kept old new (ap (λ (n : CloneNode). n.repository) same)
    ]

    pub keeps : TrailKeeps fmt rules
    keeps start [] early sound k a = keeps_same (clone_after start early).repository
    keeps start (t ∷ late) early sound k a =
        keeps_then (clone_after start early).repository (clone_after start (late ++ early)).repository t.node.repository (keeps start late early sound k.1 a.1)
        (turn_kept (clone_after start (late ++ early)) t.node t.call t.answer t.sends a.0 k.0)
