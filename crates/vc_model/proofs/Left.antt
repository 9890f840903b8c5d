-- With no writes left nothing that is stored changes.
use Rattle.std.proofs.Common.{◌≡◌, ◌≤◌, Bool, List, [], ◌∷◌, Option, Some, Contains, inl, inr, sym, ap, ◌∙◌, subst, arith, length}
use Rattle.std.specs.FinMap.{get, insert, same_map, nat_cmp-IsAntisymmetric}
use Rattle.std.specs.Cmp.{nat_cmp_total}
use Rattle.std.specs.Cmp.Lexicographic.{nat_list_cmp_total}
use Rattle.vc_model.specs.Object.{Format, Objects}
use Rattle.vc_model.specs.Refs.{Refs, Head}
use Rattle.vc_model.specs.Repository.{Repository, Index}
use Rattle.vc_model.specs.Node.{Answer}
use Rattle.vc_model.specs.Shared.{SharedNode}
use Rattle.vc_model.specs.Clone.{CloneNode}
use Rattle.vc_model.specs.Clone.Awaited.{Nothing}
use Rattle.vc_model.specs.SharedCall.{SharedCall, SharedAnswers}
use Rattle.vc_model.specs.SharedCall.SharedCall.{Accept, StepOf, Asks as AsksShared, Prune as PruneShared, Open as OpenShared}
use Rattle.vc_model.specs.SharedCall.SharedAnswers.{down as shared_down, asked as shared_asked, refused as shared_refused, obeyed as shared_obeyed, pruned as shared_pruned, opened as shared_opened, faulted as shared_faulted}
use Rattle.vc_model.specs.CloneCall.{CloneCall, CloneAnswers}
use Rattle.vc_model.specs.CloneCall.CloneCall.{Command, Receive, Asks, Prune, Open}
use Rattle.vc_model.specs.CloneCall.CloneAnswers.{down, asked, refused, obeyed, pruned, opened, faulted}
use Rattle.vc_model.specs.Rules.{Rules}
use Rattle.vc_model.specs.Wire.{Wire, wire_by}
use Rattle.vc_model.specs.Fuse.{Fuse, Place, DiffersAt, Burns}
use Rattle.vc_model.specs.ExactWorld.{FusedWorld, MayShared, MayClone, TogetherAt, shared_fuse_at, clone_fuse_at}
use Rattle.vc_model.specs.ExactWorld.WorldAnswers.{no_message, stop_shared, stop_clone, at_shared, at_clone}
use Rattle.vc_model.specs.Exact.{NoWriteIsLeft}
use Rattle.vc_model.proofs.Maps.{insert_cases, bytes_same}
use Rattle.vc_model.proofs.OneAnswer.{same_objects}
use Rattle.vc_model.proofs.Kept.{restart_ok}

no_place : (places : List Place) (p : Place) → length places ≤ 0 → Contains places p → ⊥
no_place [] p short c = absurd (let k = c.1 in omega arith)
no_place (q ∷ places) p short c = absurd (omega arith)

same_repository : (s t : Objects) (p q : Refs) (h k : Head) (i j : Index) → s ≡ t → p ≡ q → h ≡ k → i ≡ j
    → ◌≡◌ {A = Repository} (record { objects = s; refs = p; head = h; index = i }) (record { objects = t; refs = q; head = k; index = j })
same_repository s t p q h k i j a b c d = cc

differs_nowhere : (places : List Place) (old new : Repository) → length places ≤ 0 → DiffersAt places old new → new ≡ old
differs_nowhere places old new short d = same_repository new.objects old.objects new.refs old.refs new.head old.head new.index old.index
    (same_objects new.objects old.objects (λ x. elim (d.objects x) [ inl e ↦ e | inr c ↦ absurd (no_place places (Place.AnObject x) short c) ]))
    (same_map nat_list_cmp_total bytes_same new.refs old.refs (λ n. elim (d.refs n) [
      | inl e ↦ e
      | inr c ↦ elim c [ inl a ↦ absurd (no_place places (Place.ARef n) short a) | inr a ↦ absurd (no_place places Place.TheRefs short a) ]
    ]))
    (elim (d.head) [ inl e ↦ e | inr c ↦ absurd (no_place places Place.TheHead short c) ])
    (elim (d.index) [ inl e ↦ e | inr c ↦ absurd (no_place places Place.TheIndex short c) ])

burns_nothing : (frail : Bool) (may together : Type 0) (old new : Repository) (a : Answer) (after : Fuse) → Burns frail (Some 0) may together old new a after → new ≡ old
burns_nothing frail may together old new a after b =
    let w = b.3 in differs_nowhere w.0 old new (let k : b.0 ≤ 0 = b.1 in let l : length w.0 ≤ b.0 = w.1 in omega arith) w.3

module _ (fmt : Format) (rules : Rules fmt) where
  -- opening leaves what is stored, whatever the fuse
  shared_stays : (frail : Bool) (fuse : Fuse) (may together : Type 0) (i : SharedCall) (old new : SharedNode) (a : Answer) (sends : _) (after : Fuse) → fuse ≡ Some 0
      → SharedAnswers fmt rules old i a new sends → Burns frail (shared_fuse_at fuse i) may together old.repository new.repository a after → new.repository ≡ old.repository
  shared_stays frail fuse may together (Accept m) old new a sends after e s b = burns_nothing frail may together old.repository new.repository a after (subst (λ (f : Fuse). Burns frail f may together old.repository new.repository a after) e b)
  shared_stays frail fuse may together (StepOf k) old new a sends after e s b = burns_nothing frail may together old.repository new.repository a after (subst (λ (f : Fuse). Burns frail f may together old.repository new.repository a after) e b)
  shared_stays frail fuse may together (AsksShared q) old new a sends after e s b = burns_nothing frail may together old.repository new.repository a after (subst (λ (f : Fuse). Burns frail f may together old.repository new.repository a after) e b)
  shared_stays frail fuse may together PruneShared old new a sends after e s b = burns_nothing frail may together old.repository new.repository a after (subst (λ (f : Fuse). Burns frail f may together old.repository new.repository a after) e b)
  shared_stays frail fuse may together OpenShared old new a sends after e s b = elim s [
    | shared_down off other is same none ↦ ap (λ (n : SharedNode). n.repository) same
    | shared_asked w q up is tells same none ↦ ap (λ (n : SharedNode). n.repository) same
    | shared_refused w n up why is same none ↦ ap (λ (n : SharedNode). n.repository) same
    | shared_obeyed w d up deed ends is ↦ absurd deed
    | shared_pruned w up is ends none ↦ absurd (let e = is in cc)
    | shared_opened is ends none ↦ (restart_ok a old Rattle.std.specs.FinMap.empty new ends).same
    | shared_faulted w f up other is same none ↦ ap (λ (n : SharedNode). n.repository) same
  ]

  clone_stays : (frail : Bool) (fuse : Fuse) (may together : Type 0) (i : CloneCall) (old new : CloneNode) (a : Answer) (sends : _) (after : Fuse) → fuse ≡ Some 0
      → CloneAnswers fmt rules old i a new sends → Burns frail (clone_fuse_at fuse i) may together old.repository new.repository a after → new.repository ≡ old.repository
  clone_stays frail fuse may together (Command t) old new a sends after e s b = burns_nothing frail may together old.repository new.repository a after (subst (λ (f : Fuse). Burns frail f may together old.repository new.repository a after) e b)
  clone_stays frail fuse may together (Receive m) old new a sends after e s b = burns_nothing frail may together old.repository new.repository a after (subst (λ (f : Fuse). Burns frail f may together old.repository new.repository a after) e b)
  clone_stays frail fuse may together (Asks q) old new a sends after e s b = burns_nothing frail may together old.repository new.repository a after (subst (λ (f : Fuse). Burns frail f may together old.repository new.repository a after) e b)
  clone_stays frail fuse may together Prune old new a sends after e s b = burns_nothing frail may together old.repository new.repository a after (subst (λ (f : Fuse). Burns frail f may together old.repository new.repository a after) e b)
  clone_stays frail fuse may together Open old new a sends after e s b = elim s [
    | down off other is same none ↦ ap (λ (n : CloneNode). n.repository) same
    | asked w q up is tells same none ↦ ap (λ (n : CloneNode). n.repository) same
    | refused w n up why is same none ↦ ap (λ (n : CloneNode). n.repository) same
    | obeyed w d up deed ends is ↦ absurd deed
    | pruned w up is ends none ↦ absurd (let e = is in cc)
    | opened is ends none ↦ (restart_ok a old Nothing new ends).same
    | faulted w f up other is same none ↦ ap (λ (n : CloneNode). n.repository) same
  ]

same_clone : (o : Option CloneNode) (n m : CloneNode) → o ≡ Some n → o ≡ Some m → m.repository ≡ n.repository
same_clone o n m e f = cc

pub no_write_is_left : NoWriteIsLeft
no_write_is_left fmt tests old new e a s = elim s [
  | no_message k is none answer same ↦ (λ f. ap (λ (w : FusedWorld). w.world.shared.repository) same, λ c n m f g h. same_clone (get old.world.clones c) n m g (ap (λ (w : FusedWorld). get w.world.clones c) (sym same) ∙ h))
  | stop_shared writes f is fuse answer same ↦ (λ f. ap (λ (w : FusedWorld). w.world.shared.repository) same, λ c n m f g h. same_clone (get old.world.clones c) n m g (ap (λ (w : FusedWorld). get w.world.clones c) (sym same) ∙ h))
  | stop_clone d q writes f is got fuse answer same ↦ (λ f. ap (λ (w : FusedWorld). w.world.shared.repository) same, λ c n m f g h. same_clone (get old.world.clones c) n m g (ap (λ (w : FusedWorld). get w.world.clones c) (sym same) ∙ h))
  | at_shared d i q sends after calls answers burns same ↦ (
    λ f. ap (λ (w : FusedWorld). w.world.shared.repository) same
        ∙ shared_stays fmt rules old.frail old.shared_fuse (MayShared fmt old.world.shared i) (TogetherAt old.world.shared i) i old.world.shared q a sends after f answers burns,
    λ c n m f g h. same_clone (get old.world.clones c) n m g (ap (λ (w : FusedWorld). get w.world.clones c) (sym same) ∙ h),
  )
  | at_clone d p q i sends after got calls answers burns same ↦ (
    λ f. ap (λ (w : FusedWorld). w.world.shared.repository) same,
    λ c n m f g h. elim (insert_cases nat_cmp_total nat_cmp-IsAntisymmetric old.world.clones d q c m (ap (λ (w : FusedWorld). get w.world.clones c) (sym same) ∙ h)) [
      | inl is ↦
          let fuse : get old.clone_fuses d ≡ Some 0 = ap (get old.clone_fuses) (sym is.0) ∙ f in
          let before : p.repository ≡ n.repository = same_clone (get old.world.clones d) n p (ap (get old.world.clones) (sym is.0) ∙ g) got in
          ap (λ (m : CloneNode). m.repository) is.1 ∙ (clone_stays fmt rules old.frail (get old.clone_fuses d) (MayClone fmt rules p i) ⊥ i p q a sends after fuse answers burns ∙ before)
      | inr was ↦ same_clone (get old.world.clones c) n m g was
    ],
  )
]
  where
    wire : Wire fmt
    wire = wire_by fmt tests

    rules : Rules fmt
    rules = wire.rules
