-- What opening the files of a shared node leaves of them.
use Rattle.std.proofs.Common.{suc, zero, ◌≡◌, ℕ, true, List, [], ◌∷◌, Option, Some, None, sym, refl, subst}
use Rattle.std.specs.FinMap as files
use Rattle.std.specs.FinMap.{empty, get-empty}
use Rattle.std.specs.List.{AllByRecursion}
use Rattle.std.specs.Ordering.{nat_cmp}
use Rattle.vc_files.specs.FileMap.{FileMap}
use Rattle.vc_model.specs.Push.{OpenPush}
use Rattle.vc_model.specs.Repository.{Repository}
use Rattle.vc_local.proofs.EmptyingLemmas.{empty_slot, openable_kept, opened_empty}
use Rattle.vc_local.proofs.OpeningLaws.{made_ready}
use Rattle.vc_local.specs.Emptying.{IsOpened}
use Rattle.vc_local.specs.Opening.{IsOpenable}
use Rattle.vc_push_rules.specs.Session.{SessionText}
use Rattle.vc_shared.specs.Holding.{HoldsShared, HoldsSlot}
use Rattle.vc_shared.specs.Slots.{free_slots, slot_of}

slot_none : (slots : List (Option SessionText)) → AllByRecursion (λ v. v ≡ None) slots → (k : ℕ) → slot_of slots k ≡ None
slot_none [] free k = refl
slot_none (v ∷ vs) free zero = free.0
slot_none (v ∷ vs) free (suc k) = slot_none vs free.1 k

all_free : AllByRecursion (λ v. v ≡ None) free_slots
all_free = (refl, (refl, (refl, (refl, (refl, (refl, (refl, (refl, tt))))))))

pub held_opened : (old new : FileMap) (r : Repository) → IsOpened old new → IsOpenable old r → HoldsShared new free_slots true (record { repository = r; live = Some empty })
held_opened old new r o can =
    let held = made_ready o.mid new r o.ready o.keeps (openable_kept old o.mid o.loses r can) in
    record {
      spells = held.shows.spells;
      clean = held.clean;
      live = record {
        eight = refl;
        each = λ k fits.
            subst (λ (v : Option SessionText). HoldsSlot new k v (files.get {R = nat_cmp} empty k)) (sym (slot_none free_slots all_free k))
            (subst (λ (q : Option OpenPush). HoldsSlot new k None q) (sym (get-empty nat_cmp k))
            (empty_slot k new (opened_empty old new o)));
        others = λ k past. get-empty nat_cmp k;
      };
    }
