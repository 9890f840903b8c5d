-- The deed of a clone that takes an advertisement, as the machine has it over a sound repository: something is asked for, or the
-- refs follow.
use Rattle.std.proofs.Common.{◌≡◌, ◌≢◌, inl, inr, ℕ, zero, suc, List, ◌∷◌, length, map, take, None, Some, refl, sym, ap, ◌∙◌, subst, []}
use Rattle.std.specs.FinMap.{empty, entries}
use Rattle.vc_fetch.specs.Advert.{AdvertText}
use Rattle.vc_files.specs.FileMap.{FileMap}
use Rattle.vc_format.specs.Git.{bytes_of_id}
use Rattle.vc_message.specs.Machine.{IsAdvert}
use Rattle.vc_model.specs.Clone.{AreOpen, Moves, MovesAny, Receives, haves_of, quietly, sending}
use Rattle.vc_model.specs.Clone.Awaited.{APack, AnAdvert, Nothing}
use Rattle.vc_model.specs.Message.{Message}
use Rattle.vc_model.specs.Message.Message.{Want}
use Rattle.vc_model.specs.Node.Reply.{Moved, Sends}
use Rattle.vc_model.specs.Object.{Id, stored}
use Rattle.vc_model.specs.Refs.{RefName}
use Rattle.vc_model.specs.Repository.{Change, IsSound, Repository, no_effect, only_changes}
use Rattle.vc_model.proofs.Maps.{none_added}
use Rattle.vc_object.specs.declared.id.ObjectId.{ObjectId}
use Rattle.vc_rules.specs.Git.{git}
use Rattle.vc_rules.specs.OpenPushes.{HoldsContent}
use Rattle.vc_exchange.specs.Deeds.{ChangesAt, IsCutShort, IsReceived}
use Rattle.vc_tracking.specs.Moving.{AreFrontMoved, AreMoved, MovesSome, Told, machine_refs}
use Rattle.vc_exchange.specs.Receiving.{AreRefs, awaited_pack}
use Rattle.vc_exchange.specs.Wanting.{AreOpenTold}
use Rattle.vc_tracking.specs.declared.moving.Followed.TheVariants.{All}
use Rattle.vc_exchange.proofs.DeedLemmas.{all_received, done_changes, front_received, some_received}
use Rattle.vc_exchange.proofs.RefEntries.{entries_machine}

take_bytes : (n : ℕ) (ids : List ObjectId) → map bytes_of_id (take n ids) ≡ take n (map bytes_of_id ids)
take_bytes zero ids = take_none ids
  where
    take_none : (ids : List ObjectId) → map bytes_of_id (take 0 ids) ≡ take 0 (map bytes_of_id ids)
    take_none [] = refl
    take_none (x ∷ ids) = refl
take_bytes (suc n) [] = refl
take_bytes (suc n) (x ∷ ids) = ap (λ (l : List Id). x.0 ∷ l) (take_bytes n ids)

some_bytes : (ids : List ObjectId) → ids ≢ [] → map bytes_of_id ids ≢ []
some_bytes [] some = absurd (some refl)
some_bytes (x ∷ ids) some = λ none. cc none

module _ (r : Repository) (m : Message) (t : AdvertText) (advert : IsAdvert m t) (told : List Told) (is : told ≡ entries t.refs) where
  pub told_refs : AreRefs advert.refs told
  told_refs = entries_machine advert.refs t.refs advert.same ∙ ap machine_refs (sym is)

  open_refs : (ids : List ObjectId) → AreOpenTold r told ids → AreOpen git (stored r.objects) [] (entries advert.refs) (map bytes_of_id ids)
  open_refs ids are = subst (λ (l : List (RefName × Id)). AreOpen git (stored r.objects) [] l (map bytes_of_id ids)) (sym told_refs) are

  -- ---- nothing is open
  module _ (known : Type 0) (sound : IsSound git r → known) (none : IsSound git r → AreOpenTold r told []) where
    takes : IsSound git r → (cs : List Change) → Moves (MovesAny git (stored r.objects)) r.refs (machine_refs told) cs → Receives git r AnAdvert m (quietly Nothing (only_changes cs) (Moved (length cs) 0))
    takes is_sound cs moves =
        subst (λ (x : Message). Receives git r AnAdvert x (quietly Nothing (only_changes cs) (Moved (length cs) 0))) (sym advert.is) (
          refl,
          [],
          open_refs [] (none is_sound),
          inr (
            refl,
            record {
              changes = cs;
              open_ids = [];
              moves = subst (λ (l : List (RefName × Id)). Moves (MovesAny git (stored r.objects)) r.refs l cs) (sym told_refs) moves;
              rest = open_refs [] (none is_sound);
              deed = refl;
            },
          ),
        )

    pub advert_followed : (new : FileMap) (moved : ℕ) → AreMoved known All told r new moved → IsReceived r AnAdvert m new Nothing None (Moved moved 0)
    advert_followed = all_received All told r empty r.objects (none_added r.objects) (stored r.objects) refl AnAdvert m Nothing (λ n. Moved n 0) known sound takes

    pub advert_cut : (new : FileMap) → AreFrontMoved known All told r new → IsCutShort r AnAdvert m new
    advert_cut = front_received All told r empty r.objects (none_added r.objects) (stored r.objects) refl AnAdvert m Nothing (λ n. Moved n 0) known sound takes

    pub advert_changes : (known → MovesSome All told r) → IsSound git r → ChangesAt r AnAdvert m
    advert_changes = some_received All told r empty r.objects (none_added r.objects) (stored r.objects) refl AnAdvert m Nothing (λ n. Moved n 0) known sound takes

  -- ---- something is
  pub advert_asked : (opened wants : List ObjectId) → opened ≢ [] → (IsSound git r → AreOpenTold r told opened) → wants ≡ take 256 opened → (new : FileMap) → HoldsContent new r
      → IsReceived r AnAdvert m new (awaited_pack wants advert.refs) (Some (Want (map bytes_of_id wants) (haves_of r))) Sends
  advert_asked opened wants some are first new held = record {
    effect = no_effect;
    after = r;
    receives = λ sound. subst (λ (x : Message). Receives git r AnAdvert x (sending (awaited_pack wants advert.refs) (Want (map bytes_of_id wants) (haves_of r)))) (sym advert.is)
        (refl, map bytes_of_id opened, open_refs opened (are sound), inl (some_bytes opened some, ap (λ (l : List Id). sending (APack l advert.refs) (Want l (haves_of r))) (ap (map bytes_of_id) first ∙ take_bytes 256 opened)));
    done = done_changes r [];
    content = held;
    head = refl;
    index = refl;
  }
