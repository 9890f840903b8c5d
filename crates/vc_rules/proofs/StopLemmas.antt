-- A stop that is set, and a fuse that is taken out.
use Rattle.std.proofs.Common.{◌≡◌, ◌⊎◌, inl, inr, ℕ, Bool, true, false, true≢false, IsTrue, Option, Some, None, refl, sym, ap, ◌∙◌, subst}
use Rattle.std.specs.Prelude.{is_some}
use Rattle.vc_files.specs.Fused.{CanFailBy, Fused, FusedCanFail, fused_left, left_after, left_by}
use Rattle.vc_files.specs.declared.fused.Fuse.{Fuse}
use Rattle.vc_files.specs.declared.fused.Fuse.TheVariants.{Blown, Left, Unset}
use Rattle.vc_model.specs.ExactWorld.{SetsFuse}
use Rattle.vc_model.specs.Node.{Node}
use Rattle.vc_rules.specs.Stops.{FuseIsMended, IsBelow, IsCalm, StopIsSet}

module _ {F : Type 0} (can_fail : F → Type 0) (left : F → Option ℕ) (frail : Bool) (below : IsBelow can_fail left frail) where
  -- under a fuse that is set only what is frail can fail
  set_calm : (device : Fused F) (writes : ℕ) → device.fuse ≡ Left writes → FusedCanFail can_fail left device → IsTrue frail
  set_calm device writes is can = by (subst (λ (f : Fuse). CanFailBy f (left device.files) (can_fail device.files)) is can)
    where
      by : IsTrue (is_some (left device.files)) ⊎ can_fail device.files → IsTrue frail
      by (inl some) =
          let never : ◌≡◌ {A = Bool} false true = subst (λ (o : Option ℕ). is_some o ≡ true) (below.unstopped device.files) some in
          absurd (true≢false (sym never))
      by (inr fails) = below.calm device.files fails

  unset_calm : (device : Fused F) → device.fuse ≡ Unset → FusedCanFail can_fail left device → IsTrue frail
  unset_calm device is can = below.calm device.files (subst (λ (f : Fuse). CanFailBy f (left device.files) (can_fail device.files)) is can)

  module _ {V : Type 0} (is_up : Bool) (n : Node V) (old new : Fused F) (writes : ℕ) (calm : IsCalm (FusedCanFail can_fail left) frail is_up old) (down : is_up ≡ false → n.live ≡ None)
      (files : new.files ≡ old.files) where
    abbrev Sets : Type 0
    Sets = SetsFuse frail n (fused_left left old) writes (fused_left left new) × IsCalm (FusedCanFail can_fail left) frail is_up new

    set_now : new.fuse ≡ Left writes → Sets
    set_now is = (inl (ap (λ (f : Fuse). left_by f (left new.files)) is), λ up can. set_calm new writes is can)

    stays_blown : old.fuse ≡ Blown → new.fuse ≡ Blown → Sets
    stays_blown was is = (
      inr (either is_up refl, ap (λ (f : Fuse). left_by f (left new.files)) is ∙ sym (none_left was)),
      λ up can. calm up (blown was),
    )
      where
        blown : old.fuse ≡ Blown → FusedCanFail can_fail left old
        blown was = subst (λ (f : Fuse). CanFailBy f (left old.files) (can_fail old.files)) (sym was) tt

        none_left : old.fuse ≡ Blown → fused_left left old ≡ Some 0
        none_left was = ap (λ (f : Fuse). left_by f (left old.files)) was

        either : (b : Bool) → is_up ≡ b → (n.live ≡ None) ⊎ (IsTrue frail × (fused_left left old ≡ Some 0))
        either true up = inr (calm up (blown was), none_left was)
        either false up = inl (down up)

    sets : (before : Fuse) → old.fuse ≡ before → new.fuse ≡ left_after before writes → Sets
    sets Unset was is = set_now is
    sets (Left k) was is = set_now is
    sets Blown was is = stays_blown was is

pub stop_is_set : {F : Type 0} (V : Type 0) (can_fail : F → Type 0) (left : F → Option ℕ) → StopIsSet V can_fail left
stop_is_set V can_fail left frail is_up n old new writes below calm down files fuse = sets can_fail left frail below is_up n old new writes calm down files old.fuse refl fuse

pub fuse_is_mended : {F : Type 0} (can_fail : F → Type 0) (left : F → Option ℕ) → FuseIsMended can_fail left
fuse_is_mended can_fail left frail new below is =
    (ap (λ (f : Fuse). left_by f (left new.files)) is ∙ below.unstopped new.files, λ can. unset_calm can_fail left frail below new is can)
