-- A fetch between good nodes ends well.
use Rattle.std.proofs.Common.{◌≡◌, ◌≢◌, ℕ, ◌<◌, suc, List, ◌∷◌, Option, Some, None, ◌⊎◌, inl, inr, refl, sym, ap, ◌∙◌, subst, arith, nat_cmp, Contains, length, take, []}
use mathlib.Core.Path.{fun_ext}
use Rattle.std.specs.FinMap.{get, entries, empty, get-entries}
use Rattle.std.specs.List.{AllByRecursion}
use Rattle.std.specs.Cmp.Lexicographic.{slice_cmp, nat_list_cmp_total}
use Rattle.std.proofs.lemmas.Option.{same_Some}
use Rattle.vc_model.specs.Object.{Id, Object, Format, Objects, Lookup, stored, over}
use Rattle.vc_model.specs.Reach.{IsClosed}
use Rattle.vc_model.specs.Refs.{Refs, branch, tracking, IsFree}
use Rattle.vc_model.specs.Repository.{Repository, Change, changed_all, with_objects, Effect, no_effect, SomeAdded, AllAdded, Done, StopsWithin, IsSound, IsBare}
use Rattle.vc_model.specs.Push.{Slots}
use Rattle.vc_model.specs.Message.{Message}
use Rattle.vc_model.specs.Message.Message.{ListRefs, Advert, Want, Pack}
use Rattle.vc_model.specs.Node.{Answer, Failure, Deed, IsDifference}
use Rattle.vc_model.specs.Node.Answer.{Did, Fault}
use Rattle.vc_model.specs.Node.Reply.{Sends}
use Rattle.vc_model.specs.Shared.{SharedNode, IsOurs, Serves, ServesNot, head_value}
use Rattle.vc_model.specs.Clone.{Awaited, CloneNode, AreOpen, MovesToAdvert, Receives, haves_of, sending}
use Rattle.vc_model.specs.Clone.Awaited.{AnAdvert, APack}
use Rattle.vc_model.specs.Clone.Task.{StartFetch}
use Rattle.vc_model.specs.Rules.{Rules, rules_by}
use Rattle.vc_model.specs.SharedCall.{SharedAnswers}
use Rattle.vc_model.specs.SharedCall.SharedCall.{Accept}
use Rattle.vc_model.specs.CloneCall.{CloneAnswers}
use Rattle.vc_model.specs.CloneCall.CloneCall.{Command, Receive}
use Rattle.vc_model.specs.Good.{IsGood, IsGoodShared, IsGoodMessage}
use Rattle.vc_model.specs.Exchange.{BranchesCanBeTracked, IsBehind, CloneSends, SharedSends, NodesAgree, AreReady, AreUp, FetchRound, IsLeft, RoundEnds, RoundEndsWell}
use Rattle.vc_model.specs.Exchange.FetchRound.{unasked, unlisted, advertised, unpacked, packed}
use Rattle.vc_model.specs.Exchange.RoundEnds.{moved, failed}
use Rattle.vc_model.proofs.Maps.{none_in_empty}
use Rattle.vc_model.proofs.Reaching.{closed_grows}
use Rattle.vc_model.proofs.Sound.{over_extends, all_added_is, all_is_some, all_taken, changed_all-objects}
use Rattle.vc_model.proofs.Entries.{all_entries}
use Rattle.vc_model.proofs.Commits.{all_holds}
use Rattle.vc_model.proofs.Runs.{found_over}
use Rattle.vc_model.proofs.OneClone.{open_once}
use Rattle.vc_model.proofs.Stepping.{added_empty}
use Rattle.vc_model.proofs.Good.{clone_keeps_good}
use Rattle.vc_model.proofs.Carried.{Agree, agree_of, agree_over, closed_over}
use Rattle.vc_model.proofs.Following.{Follows, SetsTracked, sound_follows, changes_follow, moves_set, caught_up}
use Rattle.vc_model.proofs.Wanted.{fewer, open_values, none_open, haves_closed}
use Rattle.vc_model.proofs.Came.{clone_came, shared_came, nothing_done, nothing_cut}
use Rattle.vc_model.proofs.Came.Came.{not_done, done, stopped}

-- ---- small things

pub none_sent : (m : Message) (o : Option Message) → o ≡ Some m → o ≡ None → ⊥
none_sent m o e f = absurd (cc)

pub up_is : {V : Type 0} (o : Option V) → o ≢ None → (v : V) × (o ≡ Some v)
up_is None n = absurd (n refl)
up_is (Some v) n = (v, refl)

pub is_up : {V : Type 0} (o : Option V) (v : V) → o ≡ Some v → o ≢ None
is_up o v e n = absurd (cc)

no_length : (xs : List Id) → length xs ≡ 0 → xs ≡ []
no_length [] e = refl
no_length (x ∷ xs) e = absurd (omega (arith, e))

first_taken : (k : ℕ) (x : Id) (more : List Id) → Contains (take (suc k) (x ∷ more)) x
first_taken k x more = (0, omega arith, refl)

-- ---- what stays

-- no open push is new
pub shared_stays : (fmt : Format) (rules : Rules fmt) (u t : SharedNode) → IsGoodShared fmt rules u → t.repository ≡ u.repository → ((slots : Slots) → t.live ≡ Some slots → u.live ≡ Some slots) → IsGoodShared fmt rules t
shared_stays fmt rules u t h same live = record {
  good = subst (IsGood fmt rules) (sym same) h.good;
  bare = subst (IsBare fmt) (sym same) h.bare;
  carried = λ slots k p up is. h.carried slots k p (live slots up) is;
}

module _ (fmt : Format) (rules : Rules fmt) (s : Repository) (well : IsGood fmt rules s) (bare : IsBare fmt s) where
  abbrev sound : IsSound fmt s
  sound = well.sound

  -- A clone that is good, agrees with the shared node, and follows it.
  pub record Goes (c : Repository) : Type 0 where
    pub good : IsGood fmt rules c
    pub agree : NodesAgree fmt s c
    pub follows : Follows fmt s sound c.refs

  agree_at : (c : Repository) → Goes c → Agree (stored s.objects) (stored c.objects)
  agree_at c g = agree_of fmt s c sound.objects g.good.sound.objects g.agree

  -- Its objects are the shared node's, and it sets tracking refs to their branches' values.
  pub record Brought (e : Effect) : Type 0 where
    pub objects : (x : Id) (o : Object) → get e.objects x ≡ Some o → get s.objects x ≡ Some o
    pub changes : AllByRecursion (SetsTracked fmt s sound) e.changes

  one_in : (x y : Id) (o p : Object) → get s.objects x ≡ Some o → get s.objects y ≡ Some p → fmt.name_of o ≡ fmt.name_of p → o ≡ p
  one_in x y o p g h e =
      let key : x ≡ y = sym (sound.objects.named x o g) ∙ (e ∙ sound.objects.named y p h) in
      let there : get s.objects x ≡ Some p = ap (get s.objects) key ∙ h in cc

  agree_added : (c q : Repository) (e k : Objects) → NodesAgree fmt s c → ((x : Id) (o : Object) → get e x ≡ Some o → get s.objects x ≡ Some o) → SomeAdded c.objects e k → q.objects ≡ k → NodesAgree fmt s q
  agree_added c q e k a brought added is = record {
    unique = λ o p g h n.
        let there : get k h.0 ≡ Some p = ap (λ (s : Objects). get s h.0) (sym is) ∙ h.1 in
        elim (added.each h.0) [
          | inl was ↦ a.unique o p g (h.0, sym was ∙ there) n
          | inr over ↦ elim (found_over c.objects e h.0 p (sym over ∙ there)) [
            | inl was ↦ a.unique o p g (h.0, was) n
            | inr new ↦ one_in g.0 h.0 o p g.1 (brought h.0 p new) n
          ]
        ];
  }

  changed_goes : (c q : Repository) (e : Effect) (k : Objects) (cs : List Change) → Goes c → IsGood fmt rules q → Brought e → SomeAdded c.objects e.objects k → AllByRecursion (SetsTracked fmt s sound) cs
      → q ≡ changed_all cs (with_objects c k) → Goes q
  changed_goes c q e k cs g h b added all is = record {
    good = h;
    agree = agree_added c q e.objects k g.agree b.objects added (ap (λ (r : Repository). r.objects) is ∙ changed_all-objects cs (with_objects c k));
    follows = subst (λ (r : Repository). Follows fmt s sound r.refs) (sym is) (changes_follow fmt s sound cs (with_objects c k) all g.follows);
  }

  done_goes : (c q : Repository) (e : Effect) → Goes c → IsGood fmt rules q → Brought e → Done c e q → Goes q
  done_goes c q e g h b d = changed_goes c q e d.0 e.changes g h b (all_is_some c.objects e.objects d.0 d.1) b.changes d.2

  cut_goes : (c q : Repository) (e : Effect) → Goes c → IsGood fmt rules q → Brought e → StopsWithin c e q → Goes q
  cut_goes c q e g h b (inl d) = changed_goes c q e d.0 [] g h b d.1 tt d.2
  cut_goes c q e g h b (inr d) = changed_goes c q e d.0 (take d.1 e.changes) g h b (all_is_some c.objects e.objects d.0 d.2) (all_taken (SetsTracked fmt s sound) d.1 e.changes b.changes) d.3

  -- ---- the clone begins

  pub begins : (c d : CloneNode) (a : Answer) (sends : Option Message) (w : Awaited) → c.live ≡ Some w → CloneAnswers fmt rules c (Command StartFetch) a d sends
      → (d.repository ≡ c.repository) × (((sends ≡ Some ListRefs) × (d.live ≡ Some AnAdvert)) ⊎ ((f : Failure) × (a ≡ Fault f) × (sends ≡ None)))
  begins c d a sends w up k = elim (clone_came fmt rules c d (Command StartFetch) a sends w tt up k) [
    | not_done n why ↦ absurd why
    | done deed is did left answer sent ↦ (
      nothing_done c.repository d.repository (subst (λ (e : Deed Awaited). Done c.repository e.effect d.repository) is did),
      inl (sent ∙ ap (λ (e : Deed Awaited). e.sends) is, left ∙ ap (λ (e : Deed Awaited). Some e.left) is),
    )
    | stopped f is none off how ↦ (
      elim how [
        | inl h ↦ nothing_cut c.repository d.repository (subst (λ (e : Deed Awaited). StopsWithin c.repository e.effect d.repository) h.1 h.2)
        | inr same ↦ same
      ],
      inr (f, is, none),
    )
  ]

  -- ---- the shared node serves

  abbrev serving : Slots → Message → Deed Slots
  serving slots q = record { effect = no_effect; left = slots; sends = Some q; reply = Sends }

  -- The node stays, and sends such a message; or a fault.
  abbrev Served : (Message → Type 0) → SharedNode → Slots → Answer → SharedNode → Option Message → Type 0
  Served P u slots a t sends = (t.repository ≡ u.repository) × (((q : Message) × P q × (sends ≡ Some q) × (t.live ≡ Some slots)) ⊎ ((f : Failure) × (a ≡ Fault f) × (sends ≡ None) × (t.live ≡ None)))

  serves : (P : Message → Type 0) (u t : SharedNode) (m : Message) (a : Answer) (sends : Option Message) (slots : Slots) → u.live ≡ Some slots → ((n : ℕ) → ServesNot fmt u.repository slots m n → ⊥)
      → ((d : Deed Slots) → Serves fmt u.repository slots m d → (q : Message) × P q × (d ≡ serving slots q)) → SharedAnswers fmt rules u (Accept m) a t sends → Served P u slots a t sends
  serves P u t m a sends slots up never always k = elim (shared_came fmt rules u t (Accept m) a sends slots tt up k) [
    | not_done n why ↦ absurd (never n why)
    | done deed is did left answer sent ↦
        let q = always deed is in (
          nothing_done u.repository t.repository (subst (λ (e : Deed Slots). Done u.repository e.effect t.repository) q.2 did),
          inl (q.0, q.1, sent ∙ ap (λ (e : Deed Slots). e.sends) q.2, left ∙ ap (λ (e : Deed Slots). Some e.left) q.2),
        )
    | stopped f is none off how ↦ (
      elim how [
        | inl h ↦ let q = always h.0 h.1 in nothing_cut u.repository t.repository (subst (λ (e : Deed Slots). StopsWithin u.repository e.effect t.repository) q.2 h.2)
        | inr same ↦ same
      ],
      inr (f, is, none, off),
    )
  ]

  served_good : (P : Message → Type 0) (u t : SharedNode) (slots : Slots) (a : Answer) (sends : Option Message) → IsGoodShared fmt rules u → u.live ≡ Some slots → Served P u slots a t sends → IsGoodShared fmt rules t
  served_good P u t slots a sends h up k = shared_stays fmt rules u t h k.0 (λ left is. elim (k.1) [
    | inl q ↦ let e = q.3 in cc
    | inr f ↦ absurd (let e = f.3 in cc)
  ])

  abbrev IsAdvert : Message → Type 0
  IsAdvert q = q ≡ Advert (head_value s) s.refs

  lists : (u t : SharedNode) (a : Answer) (sends : Option Message) (slots : Slots) → u.repository ≡ s → u.live ≡ Some slots → SharedAnswers fmt rules u (Accept ListRefs) a t sends → Served IsAdvert u slots a t sends
  lists u t a sends slots same up k = serves IsAdvert u t ListRefs a sends slots up (λ n why. why)
      (λ d is. (Advert (head_value s) s.refs, refl, subst (λ (r : Repository). d ≡ serving slots (Advert (head_value r) r.refs)) same is)) k

  -- what the wants reach that the counted haves don't
  abbrev IsPackOf : List Id → List Id → Message → Type 0
  IsPackOf wants haves q = (ack : Option Id) × (pack : Objects) × (q ≡ Pack ack pack) × IsDifference fmt s.objects (Contains wants) (λ h. Contains haves h × IsOurs fmt s h) pack

  packs : (u t : SharedNode) (wants haves : List Id) (a : Answer) (sends : Option Message) (slots : Slots) → u.repository ≡ s → u.live ≡ Some slots
      → ((x : Id) → Contains wants x → IsOurs fmt s x) → SharedAnswers fmt rules u (Accept (Want wants haves)) a t sends → Served (IsPackOf wants haves) u slots a t sends
  packs u t wants haves a sends slots same up ours k = serves (IsPackOf wants haves) u t (Want wants haves) a sends slots up
      (λ n why. why.3 (subst (λ (r : Repository). IsOurs fmt r why.1) (sym same) (ours why.1 why.2)))
      (λ d is. let p = is.1 in (
        Pack p.0 p.1,
        (p.0, p.1, refl, subst (λ (r : Repository). IsDifference fmt r.objects (Contains wants) (λ h. Contains haves h × IsOurs fmt r h) p.1) same p.3),
        p.4,
      )) k

  -- ---- refs move

  module _ (can : BranchesCanBeTracked fmt) where
    -- the round ends with this answer at the clone, whichever shared node that is up it is with
    abbrev Rounded : Repository → Answer → CloneNode → Type 0
    Rounded c a d = Goes d.repository × ((t : SharedNode) → t.live ≢ None → RoundEnds fmt s c a t d)

    free : (b : List ℕ) (x : Id) → get s.refs (branch b) ≡ Some x → IsFree s.refs (branch b)
    free b x has m y g = well.apart m (branch b) y x g has

    advertised_all : AllByRecursion (λ r. get s.refs r.0 ≡ Some r.1) (entries s.refs)
    advertised_all = all_entries nat_list_cmp_total (λ r. get s.refs r.0 ≡ Some r.1) s.refs (λ n x g. g)

    module _ (e d : CloneNode) (at : Lookup) (objects : Objects) (going : Goes e.repository) (after : IsGood fmt rules d.repository)
        (brought : (x : Id) (o : Object) → get objects x ≡ Some o → get s.objects x ≡ Some o)
        (laid : (k : Objects) → AllAdded e.repository.objects objects k → stored k ≡ at) (agree : Agree (stored s.objects) at)
        (less : (ys : List Id) → AreOpen fmt at [] (entries s.refs) ys → (before : ℕ) → IsLeft fmt s e.repository before → before ≢ 0 → length ys < before) where
      effect_of : (deed : Deed Awaited) → MovesToAdvert fmt e.repository at s.refs objects deed → Brought deed.effect
      effect_of deed m = subst (λ (x : Deed Awaited). Brought x.effect) (sym m.deed)
          (record { objects = brought; changes = moves_set fmt s sound bare can at agree e.repository.refs (entries s.refs) m.changes advertised_all m.moves })

      move_done : (a : Answer) (deed : Deed Awaited) → MovesToAdvert fmt e.repository at s.refs objects deed → Done e.repository deed.effect d.repository → d.live ≡ Some deed.left → a ≡ Did deed.reply → Rounded e.repository a d
      move_done a deed m did left answer =
          let k = subst (λ (x : Deed Awaited). Done e.repository x.effect d.repository) m.deed did in
          let same : d.repository.objects ≡ k.0 = ap (λ (r : Repository). r.objects) k.2 ∙ changed_all-objects m.changes (with_objects e.repository k.0) in
          let now : stored d.repository.objects ≡ at = ap stored same ∙ laid k.0 k.1 in (
            done_goes e.repository d.repository deed.effect going after (effect_of deed m) did,
            λ t up. moved (length m.changes) (length m.open_ids) (answer ∙ ap (λ (x : Deed Awaited). Did x.reply) m.deed)
                (up, is_up d.live deed.left left)
                (m.open_ids, subst (λ (f : Lookup). AreOpen fmt f [] (entries s.refs) m.open_ids) (sym now) m.rest, refl)
                (less m.open_ids m.rest)
                (λ none b x has. subst (λ (r : Repository). get r.refs (tracking b) ≡ Some x) (sym k.2)
                (caught_up fmt s sound bare can at agree b x (entries s.refs) advertised_all (none_open fmt at (entries s.refs) m.open_ids m.rest (no_length m.open_ids none)) (free b x has)
                (with_objects e.repository k.0) m.changes going.follows (sym (get-entries s.refs (branch b)) ∙ has) m.moves)),
          )

      move_cut : (deed : Deed Awaited) → MovesToAdvert fmt e.repository at s.refs objects deed → StopsWithin e.repository deed.effect d.repository → Goes d.repository
      move_cut deed m cut = cut_goes e.repository d.repository deed.effect going after (effect_of deed m) cut

    -- ---- an advertisement comes

    stays_going : (c q : Repository) → Goes c → q ≡ c → Goes q
    stays_going c q g same = subst Goes (sym same) g

    -- what the clone does with an advertisement
    data Heard (e : CloneNode) (a : Answer) (d : CloneNode) (sends : Option Message) : Type 0 where
      wants : (x : Id) (more : List Id) → AreOpen fmt (stored e.repository.objects) [] (entries s.refs) (x ∷ more) → d.repository ≡ e.repository → d.live ≡ Some (APack (take 256 (x ∷ more)) s.refs)
          → sends ≡ Some (Want (take 256 (x ∷ more)) (haves_of e.repository)) → Heard e a d sends
      ends : sends ≡ None → Rounded e.repository a d → Heard e a d sends

    no_less : (c : Repository) (xs : List Id) → AreOpen fmt (stored c.objects) [] (entries s.refs) xs → xs ≡ [] → (before n : ℕ) → IsLeft fmt s c before → before ≢ 0 → n < before
    no_less c xs opens none before n left not =
        let same : left.0 ≡ xs = open_once fmt (stored c.objects) [] (entries s.refs) left.0 xs left.1 opens in
        absurd (not (left.2 ∙ ap length (same ∙ none)))

    nothing_brought : (x : Id) (o : Object) → get (empty {X = Object} {R = slice_cmp nat_cmp}) x ≡ Some o → get s.objects x ≡ Some o
    nothing_brought x o g = absurd (none_in_empty (slice_cmp nat_cmp) x o g)

    empty_laid : (c k : Objects) → AllAdded c empty k → stored k ≡ stored c
    empty_laid c k a = fun_ext (added_empty c k a)

    hears : (e d : CloneNode) (a : Answer) (sends : Option Message) → e.live ≡ Some AnAdvert → Goes e.repository → IsGood fmt rules d.repository
        → CloneAnswers fmt rules e (Receive (Advert (head_value s) s.refs)) a d sends → Heard e a d sends
    hears e d a sends up going after k = elim (clone_came fmt rules e d (Receive (Advert (head_value s) s.refs)) a sends AnAdvert tt up k) [
      | not_done n why ↦ absurd why
      | done deed is did left answer sent ↦ elim (is.3) [
        | inl w ↦ wanting is.1 is.2 w.0 deed w.1 did left sent
        | inr m ↦ ends (sent ∙ ap (λ (x : Deed Awaited). x.sends) m.1.deed)
            (move_done e d (stored e.repository.objects) empty going after nothing_brought (empty_laid e.repository.objects) (agree_at e.repository going)
            (λ ys opens before left not. no_less e.repository is.1 is.2 m.0 before (length ys) left not) a deed m.1 did left answer)
      ]
      | stopped f is none off how ↦ ends none (
        elim how [
          | inl h ↦ elim (h.1.3) [
            | inl w ↦ stays_going e.repository d.repository going (nothing_cut e.repository d.repository (subst (λ (x : Deed Awaited). StopsWithin e.repository x.effect d.repository) w.1 h.2))
            | inr m ↦ move_cut e d (stored e.repository.objects) empty going after nothing_brought (empty_laid e.repository.objects) (agree_at e.repository going)
                (λ ys opens before left not. no_less e.repository h.1.1 h.1.2 m.0 before (length ys) left not) h.0 m.1 h.2
          ]
          | inr same ↦ stays_going e.repository d.repository going same
        ],
        λ t up. failed f is,
      )
    ]
      where
        wanting : (ids : List Id) → AreOpen fmt (stored e.repository.objects) [] (entries s.refs) ids → ids ≢ [] → (deed : Deed Awaited)
            → deed ≡ sending (APack (take 256 ids) s.refs) (Want (take 256 ids) (haves_of e.repository)) → Done e.repository deed.effect d.repository → d.live ≡ Some deed.left → sends ≡ deed.sends → Heard e a d sends
        wanting [] opens not deed is did left sent = absurd (not refl)
        wanting (x ∷ more) opens not deed is did left sent = wants x more opens
            (nothing_done e.repository d.repository (subst (λ (x : Deed Awaited). Done e.repository x.effect d.repository) is did))
            (left ∙ ap (λ (x : Deed Awaited). Some x.left) is) (sent ∙ ap (λ (x : Deed Awaited). x.sends) is)

    -- ---- a pack comes

    module _ (f d : CloneNode) (x : Id) (more : List Id) (opens : AreOpen fmt (stored f.repository.objects) [] (entries s.refs) (x ∷ more)) (going : Goes f.repository) (ack : Option Id) (pack : Objects)
        (is : IsDifference fmt s.objects (Contains (take 256 (x ∷ more))) (λ h. Contains (haves_of f.repository) h × IsOurs fmt s h) pack) where
      abbrev wanted : List Id
      wanted = take 256 (x ∷ more)

      abbrev had : Id → Type 0
      had h = Contains (haves_of f.repository) h × IsOurs fmt s h

      abbrev over_all : Lookup
      over_all = over f.repository.objects pack

      had_closed : (h : Id) → had h → IsClosed fmt (stored f.repository.objects) h
      had_closed h k = all_holds (IsClosed fmt (stored f.repository.objects)) (haves_of f.repository) h (haves_closed fmt f.repository going.good.sound) k.0

      wanted_closed : (y : Id) → Contains wanted y → IsClosed fmt over_all y
      wanted_closed y c = closed_over fmt s.objects f.repository.objects pack (Contains wanted) had is (agree_at f.repository going) had_closed y c
          (all_holds (IsClosed fmt (stored s.objects)) wanted y
          (all_taken (IsClosed fmt (stored s.objects)) 256 (x ∷ more) (open_values fmt (stored f.repository.objects) (IsClosed fmt (stored s.objects)) [] (entries s.refs) (x ∷ more) opens
          (all_entries nat_list_cmp_total (λ r. IsClosed fmt (stored s.objects) r.1) s.refs (λ n y g. (sound.refs n y g).closed)))) c)

      grows : (y : Id) → IsClosed fmt (stored f.repository.objects) y → IsClosed fmt over_all y
      grows y c = closed_grows fmt (stored f.repository.objects) over_all y (over_extends f.repository.objects pack) c

      fewer_left : (ys : List Id) → AreOpen fmt over_all [] (entries s.refs) ys → (before : ℕ) → IsLeft fmt s f.repository before → before ≢ 0 → length ys < before
      fewer_left ys now before left not =
          let same : left.0 ≡ x ∷ more = open_once fmt (stored f.repository.objects) [] (entries s.refs) left.0 (x ∷ more) left.1 opens in
          let k : length ys < length (x ∷ more) = fewer fmt (stored f.repository.objects) over_all grows (entries s.refs) (x ∷ more) ys opens now x more refl (wanted_closed x (first_taken 255 x more)) in
          let n : before ≡ length (x ∷ more) = left.2 ∙ ap length same in omega arith

      pub takes : (a : Answer) (sends : Option Message) → f.live ≡ Some (APack wanted s.refs) → IsGood fmt rules d.repository → CloneAnswers fmt rules f (Receive (Pack ack pack)) a d sends → Rounded f.repository a d
      takes a sends up after k = elim (clone_came fmt rules f d (Receive (Pack ack pack)) a sends (APack wanted s.refs) tt up k) [
        | not_done n why ↦ absurd (why.3 (wanted_closed why.1 why.2))
        | done deed did_so did left answer sent ↦ move_done f d over_all pack going after (λ y o g. (is.only y o g).0) laid agree fewer_left a deed (moves_of deed did_so) did left answer
        | stopped g failure none off how ↦ (
          elim how [
            | inl h ↦ move_cut f d over_all pack going after (λ y o g. (is.only y o g).0) laid agree fewer_left h.0 (moves_of h.0 h.1) h.2
            | inr same ↦ stays_going f.repository d.repository going same
          ],
          λ t up. failed g failure,
        )
      ]
        where
          laid : (k : Objects) → AllAdded f.repository.objects pack k → stored k ≡ over_all
          laid k a = all_added_is f.repository.objects pack k a

          agree : Agree (stored s.objects) over_all
          agree = agree_over fmt s.objects f.repository.objects pack (Contains wanted) had is (agree_at f.repository going) had_closed

          same_refs : (xs ys : List Id) (p q : Refs) → APack xs p ≡ APack ys q → q ≡ p
          same_refs xs ys p q e = cc

          moves_of : (deed : Deed Awaited) → Receives fmt f.repository (APack wanted s.refs) (Pack ack pack) deed → MovesToAdvert fmt f.repository over_all s.refs pack deed
          moves_of deed m = subst (λ (refs : Refs). MovesToAdvert fmt f.repository over_all refs pack deed) (same_refs wanted m.0 s.refs m.1 m.2) m.4

    -- ---- a whole round

    starts_good : (c d : CloneNode) (a : Answer) (sends : Option Message) → IsGood fmt rules c.repository → CloneAnswers fmt rules c (Command StartFetch) a d sends → IsGood fmt rules d.repository
    starts_good c d a sends g k = (clone_keeps_good fmt rules c d (Command StartFetch) a sends g (record { stored = λ o p m h. absurd m; apart = λ o p m n e. absurd m }) tt k).0

    hears_good : (c d : CloneNode) (a : Answer) (sends : Option Message) (m : Message) → IsGoodMessage fmt rules m → IsGood fmt rules c.repository → CloneAnswers fmt rules c (Receive m) a d sends → IsGood fmt rules d.repository
    hears_good c d a sends m n g k = (clone_keeps_good fmt rules c d (Receive m) a sends g tt n k).0

    pack_good : (ack : Option Id) (pack : Objects) (include exclude : Id → Type 0) → IsDifference fmt s.objects include exclude pack → IsGoodMessage fmt rules (Pack ack pack)
    pack_good ack pack include exclude is = (record { named = λ x o g. sound.objects.named x o (is.only x o g).0 }, λ x o g. well.formed x o (is.only x o g).0)

    abbrev Advertises : Message
    Advertises = Advert (head_value s) s.refs

    asks : (c e : CloneNode) (list : Message) → c.live ≢ None → CloneSends fmt rules c (Command StartFetch) e list → (e.repository ≡ c.repository) × (list ≡ ListRefs) × (e.live ≡ Some AnAdvert)
    asks c e list up k =
        let w = up_is c.live up in
        let b = begins c e k.0 (Some list) w.0 w.1 k.1 in
        elim (b.1) [ inl h ↦ (b.0, same_Some list ListRefs h.0, h.1) | inr f ↦ absurd (none_sent list (Some list) refl f.2) ]

    advertises : (u t : SharedNode) (list advert : Message) (slots : Slots) → u.repository ≡ s → u.live ≡ Some slots → list ≡ ListRefs → SharedSends fmt rules u (Accept list) t advert
        → (t.repository ≡ s) × (advert ≡ Advertises) × (t.live ≡ Some slots)
    advertises u t list advert slots same up is k =
        let b = lists u t k.0 (Some advert) slots same up (subst (λ (m : Message). SharedAnswers fmt rules u (Accept m) k.0 t (Some advert)) is k.1) in
        elim (b.1) [ inl h ↦ (b.0 ∙ same, same_Some advert h.0 h.2 ∙ h.1, h.3) | inr f ↦ absurd (none_sent advert (Some advert) refl f.2) ]

    ours : (c : Repository) (xs : List Id) → AreOpen fmt (stored c.objects) [] (entries s.refs) xs → (x : Id) → Contains (take 256 xs) x → IsOurs fmt s x
    ours c xs opens x k = all_holds (IsOurs fmt s) (take 256 xs) x (all_taken (IsOurs fmt s) 256 xs (open_values fmt (stored c.objects) (IsOurs fmt s) [] (entries s.refs) xs opens
        (all_entries nat_list_cmp_total (λ r. IsOurs fmt s r.1) s.refs (λ n y g. (y, (n, g), ([], refl)))))) k

    stays_good : (u t : SharedNode) (slots : Slots) → IsGoodShared fmt rules u → t.repository ≡ u.repository → u.live ≡ Some slots → ((left : Slots) → t.live ≡ Some left → left ≡ slots) → IsGoodShared fmt rules t
    stays_good u t slots h same up only = shared_stays fmt rules u t h same (λ left is. up ∙ ap Some (sym (only left is)))

    -- the shared node stays, the clone goes with it, and the round has ended
    abbrev Ended : Repository → Answer → SharedNode → CloneNode → Type 0
    Ended c a t d = (t.repository ≡ s) × IsGoodShared fmt rules t × Goes d.repository × RoundEnds fmt s c a t d

    module _ (n : SharedNode) (slots : Slots) (same : n.repository ≡ s) (fine : IsGoodShared fmt rules n) (shared_up : n.live ≡ Some slots) (c : CloneNode) (up : c.live ≢ None) (going : Goes c.repository) where
      still : (t : SharedNode) → t.repository ≡ s → t.live ≡ Some slots → IsGoodShared fmt rules t
      still t is live = stays_good n t slots fine (is ∙ sym same) shared_up (λ left k. let e = live in cc)

      gone : (t : SharedNode) → t.repository ≡ s → t.live ≡ None → IsGoodShared fmt rules t
      gone t is off = stays_good n t slots fine (is ∙ sym same) shared_up (λ left k. absurd (let e = off in cc))

      -- what the clone heard
      heard : (t : SharedNode) (e d : CloneNode) (list advert : Message) (a : Answer) (sends : Option Message) → CloneSends fmt rules c (Command StartFetch) e list → SharedSends fmt rules n (Accept list) t advert
          → CloneAnswers fmt rules e (Receive advert) a d sends → (e.repository ≡ c.repository) × (t.repository ≡ s) × (t.live ≡ Some slots) × Goes e.repository × Heard e a d sends
      heard t e d list advert a sends sent told k =
          let one = asks c e list up sent in
          let two = advertises n t list advert slots same shared_up one.1 told in
          let going' = stays_going c.repository e.repository going one.0 in
          let k' = subst (λ (m : Message). CloneAnswers fmt rules e (Receive m) a d sends) two.1 k in
          (one.0, two.0, two.2, going', hears e d a sends one.2 going' (hears_good e d a sends Advertises (tt, tt) going'.good k') k')

      -- and that it wants something
      wants_so : (t : SharedNode) (e d : CloneNode) (list advert want : Message) → CloneSends fmt rules c (Command StartFetch) e list → SharedSends fmt rules n (Accept list) t advert
          → CloneSends fmt rules e (Receive advert) d want → (d.repository ≡ c.repository) × (t.repository ≡ s) × (t.live ≡ Some slots)
          × ((x : Id) × (more : List Id) × AreOpen fmt (stored d.repository.objects) [] (entries s.refs) (x ∷ more) × (d.live ≡ Some (APack (take 256 (x ∷ more)) s.refs)) × (want ≡ Want (take 256 (x ∷ more)) (haves_of d.repository)))
      wants_so t e d list advert want sent told asked =
          let h = heard t e d list advert asked.0 (Some want) sent told asked.1 in
          elim (h.4) [
            | wants x more opens stays left is ↦ (
              stays ∙ h.0,
              h.1,
              h.2,
              (
                x,
                more,
                subst (λ (r : Repository). AreOpen fmt (stored r.objects) [] (entries s.refs) (x ∷ more)) (sym stays) opens,
                left,
                same_Some want (Want (take 256 (x ∷ more)) (haves_of e.repository)) is ∙ ap (λ (r : Repository). Want (take 256 (x ∷ more)) (haves_of r)) (sym stays),
              ),
            )
            | ends none how ↦ absurd (none_sent want (Some want) refl none)
          ]

      pub round : (t : SharedNode) (d : CloneNode) (a : Answer) → FetchRound fmt rules n c a t d → Ended c.repository a t d
      round t d a (unasked k is) =
          let w = up_is c.live up in
          let b = begins c d a None w.0 w.1 k in
          elim (b.1) [
            | inl h ↦ absurd (none_sent ListRefs None h.0 refl)
            | inr f ↦ (ap (λ (n : SharedNode). n.repository) is ∙ same, subst (IsGoodShared fmt rules) (sym is) fine, stays_going c.repository d.repository going b.0, failed f.0 f.1)
          ]
      round t d a (unlisted list sent k) =
          let one = asks c d list up sent in
          let b = lists n t a None slots same shared_up (subst (λ (m : Message). SharedAnswers fmt rules n (Accept m) a t None) one.1 k) in
          elim (b.1) [
            | inl h ↦ absurd (none_sent h.0 None h.2 refl)
            | inr f ↦ (b.0 ∙ same, gone t (b.0 ∙ same) f.3, stays_going c.repository d.repository going one.0, failed f.0 f.1)
          ]
      round t d a (advertised e list advert sent told k) =
          let h = heard t e d list advert a None sent told k in
          elim (h.4) [
            | wants x more opens stays left is ↦ absurd (none_sent (Want (take 256 (x ∷ more)) (haves_of e.repository)) None is refl)
            | ends none how ↦ (h.1, still t h.1 h.2, how.0, subst (λ (r : Repository). RoundEnds fmt s r a t d) h.0 (how.1 t (is_up t.live slots h.2)))
          ]
      round t d a (unpacked e u list advert want sent told asked k) =
          let h = wants_so u e d list advert want sent told asked in
          let b = packs u t (take 256 (h.3.0 ∷ h.3.1)) (haves_of d.repository) a None slots h.1 h.2 (ours d.repository (h.3.0 ∷ h.3.1) h.3.2)
          (subst (λ (m : Message). SharedAnswers fmt rules u (Accept m) a t None) h.3.4 k) in
          elim (b.1) [
            | inl q ↦ absurd (none_sent q.0 None q.2 refl)
            | inr f ↦ (b.0 ∙ h.1, gone t (b.0 ∙ h.1) f.3, stays_going c.repository d.repository going h.0, failed f.0 f.1)
          ]
      round t d a (packed e f u list advert want pack sends sent told asked given k) =
          let h = wants_so u e f list advert want sent told asked in
          let b = packs u t (take 256 (h.3.0 ∷ h.3.1)) (haves_of f.repository) given.0 (Some pack) slots h.1 h.2 (ours f.repository (h.3.0 ∷ h.3.1) h.3.2)
          (subst (λ (m : Message). SharedAnswers fmt rules u (Accept m) given.0 t (Some pack)) h.3.4 given.1) in
          elim (b.1) [
            | inl q ↦
                let p = q.1 in
                let going' = stays_going c.repository f.repository going h.0 in
                let k' = subst (λ (m : Message). CloneAnswers fmt rules f (Receive m) a d sends) (same_Some pack q.0 q.2 ∙ p.2) k in
                let fine' = hears_good f d a sends (Pack p.0 p.1) (pack_good p.0 p.1 (Contains (take 256 (h.3.0 ∷ h.3.1))) (λ x. Contains (haves_of f.repository) x × IsOurs fmt s x) p.3) going'.good k' in
                let r = takes f d h.3.0 h.3.1 h.3.2 going' p.0 p.1 p.3 a sends h.3.3 fine' k' in
                (b.0 ∙ h.1, still t (b.0 ∙ h.1) q.3, r.0, subst (λ (r : Repository). RoundEnds fmt s r a t d) h.0 (r.1 t (is_up t.live slots q.3)))
            | inr g ↦ absurd (none_sent pack (Some pack) refl g.2)
          ]

pub round_well : (fmt : Format) (rules : Rules fmt) (s t : SharedNode) (c d : CloneNode) (a : Answer) → BranchesCanBeTracked fmt → AreReady fmt rules s c → AreUp s c → FetchRound fmt rules s c a t d
    → RoundEnds fmt s.repository c.repository a t d × AreReady fmt rules t d × (t.repository ≡ s.repository)
round_well fmt rules s t c d a can h up k =
    let well = h.shared.good in
    let w = up_is s.live up.0 in
    let r = round fmt rules s.repository well h.shared.bare can s w.0 refl h.shared w.1 c up.1
    (record { good = h.clone; agree = h.agree; follows = sound_follows fmt s.repository well.sound c.repository h.clone.sound h.behind }) t d a k in (
      r.3,
      record {
        shared = r.1;
        clone = r.2.good;
        agree = subst (λ (q : Repository). NodesAgree fmt q d.repository) (sym r.0) r.2.agree;
        behind = subst (λ (q : Repository). IsBehind fmt q d.repository.refs) (sym r.0) r.2.follows.behind;
      },
      r.0,
    )

pub round_ends_well : RoundEndsWell
round_ends_well fmt tests s t c d a can h up k = round_well fmt (rules_by fmt tests) s t c d a can h up k
