use Rattle.std.proofs.Common.{rules, ◌≡◌, inl, inr, Result, Err, List, map, take, refl, sym, ap, ◌∙◌, subst, []}
use Rattle.vc_fetch.specs.AdvertView.{advert_text}
use Rattle.vc_files.proofs.WearLemmas.{wears_then, wears_writes, writes_none, writes_told}
use Rattle.vc_files.specs.FileMap.{FileMap}
use Rattle.vc_files.specs.declared.faults.Fault.TheVariants.{Device, Memory}
use Rattle.vc_format.specs.Git.{bytes_of_id}
use Rattle.vc_message.specs.Machine.{IsWritten}
use Rattle.vc_model.specs.Clone.{haves_of}
use Rattle.vc_model.specs.Clone.Awaited.{AnAdvert}
use Rattle.vc_model.specs.Message.Message.{Want as Asks}
use Rattle.vc_model.specs.Repository.{IsSound, Repository}
use Rattle.vc_object.specs.declared.id.ObjectId.{ObjectId}
use Rattle.vc_refs.specs.Refs.{refs}
use Rattle.vc_rules.specs.Git.{git}
use Rattle.vc_rules.specs.OpenPushes.{HoldsContent}
use Rattle.vc_quarantine.proofs.CleanLemmas.{bad_same}
use Rattle.vc_history.proofs.StoredLemmas.{numbers_same}
use Rattle.vc_quarantine.proofs.WearLemmas.{wears_both}
use Rattle.vc_quarantine.specs.Known.{AreWhole}
use Rattle.vc_quarantine.specs.declared.known.Known.{Known}
use Rattle.vc_object_map.specs.Store.{objects}
use Rattle.vc_exchange.specs.Deeds.{HoldsHead}
use Rattle.vc_tracking.specs.Faults.{BlamesFiles}
use Rattle.vc_tracking.specs.Moving.{AreFrontMoved, AreMoved, IsRight, MovesSome, Told, told_in}
use Rattle.vc_exchange.specs.Receiving.{BlamesAdvert}
use Rattle.vc_exchange.specs.Wanting.{AreOpenTold, BlamesWanting}
use Rattle.vc_tracking.specs.declared.fault.ExchangeFault.{ExchangeFault}
use Rattle.vc_tracking.specs.declared.fault.ExchangeFault.TheVariants as exchange
use Rattle.vc_tracking.specs.declared.moving.Followed.TheVariants.{All}
use Rattle.vc_exchange.proofs.AdvertDeeds.{advert_asked, advert_changes, advert_cut, advert_followed, told_refs}
use Rattle.vc_exchange.proofs.EmptyLists.{empty_items, few_first, some_items}
use Rattle.vc_exchange.proofs.DeedLemmas.{none_received}
use Rattle.vc_exchange.proofs.JudgingLemmas.{faulted, learnt_alone, learnt_moved, right_more, whole_refs}
use Rattle.vc_tracking.proofs.MovingLoops.{told_err}
use Rattle.vc_exchange.proofs.ReceivingLemmas.{outside_kept, wanting_kept}
use Rattle.vc_exchange.proofs.receiving.receive_advert.Goals as goal
use Rattle.vc_lemmas.proofs.Lists.{on_err}

-- of the same refs the same ids are open
open_at : (r : Repository) (a b : List Told) (xs ys : List ObjectId) → a ≡ b → xs ≡ ys → AreOpenTold r a xs → AreOpenTold r b ys
open_at r a b xs ys told ids are = subst (λ (l : List Told). AreOpenTold r l ys) told (subst (λ (l : List ObjectId). AreOpenTold r a l) ids are)

still_held : (old new : FileMap) (r : Repository) → new ≡ old → HoldsContent old r → HoldsContent new r
still_held old new r same held = subst (λ (f : FileMap). HoldsContent f r) (sym same) held

still_heading : (old new : FileMap) (r : Repository) → new ≡ old → HoldsHead old r → HoldsHead new r
still_heading old new r same heads = subst (λ (f : FileMap). HoldsHead f r) (sym same) heads

-- want of memory is no failure of the device
no_device : {T : Type 0} (r : Result T ExchangeFault) → r ≡ Err (exchange.Fault Memory) → r ≡ Err (exchange.Fault Device) → ⊥
no_device r is told = absurd (cc (is, told))

pub returns-in_err-refs-clause-wear : goal.returns-in_err-refs-clause-wear
returns-in_err-refs-clause-wear g c = writes_none (no_device c.from_residual.result (search rules))

pub returns-in_err-known-clause-wear : goal.returns-in_err-known-clause-wear
returns-in_err-known-clause-wear g c = writes_told (wears_writes c.in_err-known.ensures.wear (λ _. c.in_err-known.ensures.same)) (search rules) (search rules)

pub returns-in_err-open-clause-wear : goal.returns-in_err-open-clause-wear
returns-in_err-open-clause-wear g c =
    wears_then c.in_ok-known.ensures.wear (λ _. c.in_ok-known.ensures.same) (search rules) (writes_told (wears_writes c.in_err-open.ensures.wear (λ _. c.in_err-open.ensures.same)) (search rules) (search rules))

pub returns-in_err-moved-clause-cut : goal.returns-in_err-moved-clause-cut
returns-in_err-moved-clause-cut g c = λ honest agrees r p m advert.
    let content = g.F.Files.content in
    let old = content c.args.files.now in
    let seen = content c.open_ids.new.files in
    let last = content c.move_refs.new.files in
    let told = told_in c.in_ok-refs.refs.items in
    let first = content c.learn_known.new.files in
    let same : first ≡ old = c.in_ok-known.ensures.same in
    let held = still_held old first r same p in
    let known = c.in_ok-known.known in
    let more : Known = record { objects = c.open_ids.new.known; histories = known.histories } in
    let Right : Type 0 = IsRight seen more c.learn_known.new.generations in
    let by_refs : IsSound git r → AreWhole (objects first) known = whole_refs old first known r same (c.in_ok-known.ensures.whole honest) p in
    let sound : IsSound git r → Right = λ is. right_more old first seen known more c.learn_known.new.generations same c.in_ok-open.ensures.same refl (by_refs is) (c.in_ok-open.ensures.known honest) (c.in_ok-known.ensures.agrees honest agrees) in
    let none : IsSound git r → AreOpenTold r told [] = λ is. open_at r (told_in c.deref.result.now) told c.in_ok-open.open.items [] (ap told_in c.deref.ensures.value) (empty_items c.in_ok-open.open c.is_empty.result c.is_empty.ensures c.if-is_empty.true) (c.in_ok-open.ensures.wanted honest (by_refs is).closed r held) in
    let front : AreFrontMoved Right All (told_in c.deref-then-is_empty.result.now) r last = search (rules, c.in_err-moved.ensures.left honest r (still_held first seen r c.in_ok-open.ensures.same held)) in
    on_err c.from_residual-in_err-moved.result _ (advert_cut r m (advert_text c.args.advert) advert told c.in_ok-refs.ensures Right sound none last (subst (λ (l : List Told). AreFrontMoved Right All l r last) (ap told_in c.deref-then-is_empty.ensures.value) front))

pub returns-in_err-moved-clause-refused : goal.returns-in_err-moved-clause-refused
returns-in_err-moved-clause-refused g c = λ honest agrees.
    let old = g.F.Files.content c.args.files.now in
    let seen = g.F.Files.content c.open_ids.new.files in
    let same : seen ≡ old = c.in_ok-open.ensures.same ∙ c.in_ok-known.ensures.same in
    let e = c.in_err-moved.field-0.0 in
    let why : BlamesFiles seen e = search (rules, c.in_err-moved.ensures.refused honest (numbers_same old seen same c.learn_known.new.generations (c.in_ok-known.ensures.agrees honest agrees))) in
    told_err c.from_residual-in_err-moved.result e (BlamesAdvert old) (search rules) (inr (subst (λ (f : FileMap). BlamesFiles f e) same why))

pub returns-in_err-moved-clause-wear : goal.returns-in_err-moved-clause-wear
returns-in_err-moved-clause-wear g c =
    wears_then c.in_ok-known.ensures.wear (λ _. c.in_ok-known.ensures.same) (search rules)
    (wears_then c.in_ok-open.ensures.wear (λ _. c.in_ok-open.ensures.same) (search rules) (writes_told c.in_err-moved.ensures.wear (search rules) (search rules)))

pub returns-in_err-moved-clause-looks : goal.returns-in_err-moved-clause-looks
returns-in_err-moved-clause-looks g c = λ honest agrees r p m advert.
    let content = g.F.Files.content in
    let old = content c.args.files.now in
    let seen = content c.open_ids.new.files in
    let told = told_in c.in_ok-refs.refs.items in
    let first = content c.learn_known.new.files in
    let same : first ≡ old = c.in_ok-known.ensures.same in
    let held = still_held old first r same p in
    let known = c.in_ok-known.known in
    let more : Known = record { objects = c.open_ids.new.known; histories = known.histories } in
    let Right : Type 0 = IsRight seen more c.learn_known.new.generations in
    let by_refs : IsSound git r → AreWhole (objects first) known = whole_refs old first known r same (c.in_ok-known.ensures.whole honest) p in
    let sound : IsSound git r → Right = λ is. right_more old first seen known more c.learn_known.new.generations same c.in_ok-open.ensures.same refl (by_refs is) (c.in_ok-open.ensures.known honest) (c.in_ok-known.ensures.agrees honest agrees) in
    let none : IsSound git r → AreOpenTold r told [] = λ is. open_at r (told_in c.deref.result.now) told c.in_ok-open.open.items [] (ap told_in c.deref.ensures.value) (empty_items c.in_ok-open.open c.is_empty.result c.is_empty.ensures c.if-is_empty.true) (c.in_ok-open.ensures.wanted honest (by_refs is).closed r held) in
    elim (c.in_err-moved.ensures.looks honest r (still_held first seen r c.in_ok-open.ensures.same held)) [
      | inl some ↦ inl (advert_changes r m (advert_text c.args.advert) advert told c.in_ok-refs.ensures Right sound none (λ whole. subst (λ (l : List Told). MovesSome All l r) (ap told_in c.deref-then-is_empty.ensures.value) (some whole)))
      | inr wears ↦ inr (wears_both c.in_ok-known.ensures.wear (wears_both c.in_ok-open.ensures.wear wears (search rules)) (λ told. told))
    ]

pub returns-then-is_empty-clause-taken : goal.returns-then-is_empty-clause-taken
returns-then-is_empty-clause-taken g c = λ honest agrees r p head m advert.
    let content = g.F.Files.content in
    let old = content c.args.files.now in
    let seen = content c.open_ids.new.files in
    let last = content c.move_refs.new.files in
    let told = told_in c.in_ok-refs.refs.items in
    let first = content c.learn_known.new.files in
    let same : first ≡ old = c.in_ok-known.ensures.same in
    let held = still_held old first r same p in
    let known = c.in_ok-known.known in
    let more : Known = record { objects = c.open_ids.new.known; histories = known.histories } in
    let Right : Type 0 = IsRight seen more c.learn_known.new.generations in
    let by_refs : IsSound git r → AreWhole (objects first) known = whole_refs old first known r same (c.in_ok-known.ensures.whole honest) p in
    let sound : IsSound git r → Right = λ is. right_more old first seen known more c.learn_known.new.generations same c.in_ok-open.ensures.same refl (by_refs is) (c.in_ok-open.ensures.known honest) (c.in_ok-known.ensures.agrees honest agrees) in
    let none : IsSound git r → AreOpenTold r told [] = λ is. open_at r (told_in c.deref.result.now) told c.in_ok-open.open.items [] (ap told_in c.deref.ensures.value) (empty_items c.in_ok-open.open c.is_empty.result c.is_empty.ensures c.if-is_empty.true) (c.in_ok-open.ensures.wanted honest (by_refs is).closed r held) in
    let all : AreMoved Right All (told_in c.deref-then-is_empty.result.now) r last c.in_ok-moved.moved = c.in_ok-moved.ensures.moved honest r (still_held first seen r c.in_ok-open.ensures.same held) in
    advert_followed r m (advert_text c.args.advert) advert told c.in_ok-refs.ensures Right sound none last c.in_ok-moved.moved (subst (λ (l : List Told). AreMoved Right All l r last c.in_ok-moved.moved) (ap told_in c.deref-then-is_empty.ensures.value) all)

pub returns-then-is_empty-clause-wear : goal.returns-then-is_empty-clause-wear
returns-then-is_empty-clause-wear g c =
    wears_then c.in_ok-known.ensures.wear (λ _. c.in_ok-known.ensures.same) (search rules)
    (wears_then c.in_ok-open.ensures.wear (λ _. c.in_ok-open.ensures.same) (search rules) (writes_told c.in_ok-moved.ensures.wear (search rules) (search rules)))

pub returns-then-is_empty-clause-looks : goal.returns-then-is_empty-clause-looks
returns-then-is_empty-clause-looks g c = λ honest agrees r p m advert.
    let content = g.F.Files.content in
    let old = content c.args.files.now in
    let seen = content c.open_ids.new.files in
    let told = told_in c.in_ok-refs.refs.items in
    let first = content c.learn_known.new.files in
    let same : first ≡ old = c.in_ok-known.ensures.same in
    let held = still_held old first r same p in
    let known = c.in_ok-known.known in
    let more : Known = record { objects = c.open_ids.new.known; histories = known.histories } in
    let Right : Type 0 = IsRight seen more c.learn_known.new.generations in
    let by_refs : IsSound git r → AreWhole (objects first) known = whole_refs old first known r same (c.in_ok-known.ensures.whole honest) p in
    let sound : IsSound git r → Right = λ is. right_more old first seen known more c.learn_known.new.generations same c.in_ok-open.ensures.same refl (by_refs is) (c.in_ok-open.ensures.known honest) (c.in_ok-known.ensures.agrees honest agrees) in
    let none : IsSound git r → AreOpenTold r told [] = λ is. open_at r (told_in c.deref.result.now) told c.in_ok-open.open.items [] (ap told_in c.deref.ensures.value) (empty_items c.in_ok-open.open c.is_empty.result c.is_empty.ensures c.if-is_empty.true) (c.in_ok-open.ensures.wanted honest (by_refs is).closed r held) in
    elim (c.in_ok-moved.ensures.looks honest r (still_held first seen r c.in_ok-open.ensures.same held)) [
      | inl some ↦ inl (advert_changes r m (advert_text c.args.advert) advert told c.in_ok-refs.ensures Right sound none (λ whole. subst (λ (l : List Told). MovesSome All l r) (ap told_in c.deref-then-is_empty.ensures.value) (some whole)))
      | inr wears ↦ inr (wears_both c.in_ok-known.ensures.wear (wears_both c.in_ok-open.ensures.wear wears (search rules)) (λ told. told))
    ]

pub returns-in_err-wants-clause-wear : goal.returns-in_err-wants-clause-wear
returns-in_err-wants-clause-wear g c =
    wears_then c.in_ok-known.ensures.wear (λ _. c.in_ok-known.ensures.same) (search rules) (writes_told (wears_writes c.in_ok-open.ensures.wear (λ _. c.in_ok-open.ensures.same)) (search rules) (search rules))

pub want_message-requires-clause-few : goal.want_message-requires-clause-few
want_message-requires-clause-few g c = few_first c.deref-2.result.now c.deref-3.result.now (c.deref-3.ensures.value ∙ c.in_ok-wants.ensures.first)

pub returns-in_err-bytes-clause-wear : goal.returns-in_err-bytes-clause-wear
returns-in_err-bytes-clause-wear g c =
    wears_then c.in_ok-known.ensures.wear (λ _. c.in_ok-known.ensures.same) (search rules)
    (wears_then c.in_ok-open.ensures.wear (λ _. c.in_ok-open.ensures.same) (search rules) (writes_told (wears_writes c.in_err-bytes.ensures.wear (λ _. c.in_err-bytes.ensures.same)) (search rules) (search rules)))

pub returns-in_err-bytes-clause-looks : goal.returns-in_err-bytes-clause-looks
returns-in_err-bytes-clause-looks g c = λ honest agrees r p m advert. inr (wears_both c.in_ok-known.ensures.wear (wears_both c.in_ok-open.ensures.wear c.in_err-bytes.ensures.wear (search rules)) (λ told. told))

pub returns-clause-taken : goal.returns-clause-taken
returns-clause-taken g c = λ honest agrees r p head m advert.
    let content = g.F.Files.content in
    let old = content c.args.files.now in
    let seen = content c.open_ids.new.files in
    let told = told_in c.in_ok-refs.refs.items in
    let first = content c.learn_known.new.files in
    let at : first ≡ old = c.in_ok-known.ensures.same in
    let held = still_held old first r at p in
    let by_refs : IsSound git r → AreWhole (objects first) c.in_ok-known.known = whole_refs old first c.in_ok-known.known r at (c.in_ok-known.ensures.whole honest) p in
    let opened = c.in_ok-open.open in
    let wants = c.in_ok-wants.wants.items in
    let bytes = c.in_ok-bytes.bytes.items in
    let new = content c.want_message.new.files in
    let front : wants ≡ take 256 opened.items = c.in_ok-wants.ensures.first ∙ ap (take 256) c.deref-2.ensures.value in
    let are : IsSound git r → AreOpenTold r told opened.items = λ is. open_at r (told_in c.deref.result.now) told opened.items opened.items (ap told_in c.deref.ensures.value) refl (c.in_ok-open.ensures.wanted honest (by_refs is).closed r held) in
    let some = some_items opened c.is_empty.result c.is_empty.ensures c.if-is_empty.false in
    let same : seen ≡ old = c.in_ok-open.ensures.same ∙ at in
    let last : new ≡ old = c.in_ok-bytes.ensures.same ∙ same in
    let asked = advert_asked r m (advert_text c.args.advert) advert told c.in_ok-refs.ensures opened.items wants some are front new (still_held old new r last p) in
    let written = subst (λ (l : List ObjectId). IsWritten (Asks (map bytes_of_id l) (haves_of r)) bytes) c.deref-3.ensures.value (c.in_ok-bytes.ensures.written honest r (still_held old seen r same p) (still_heading old seen r same head)) in
    (advert.refs, Asks (map bytes_of_id wants) (haves_of r), told_refs r m (advert_text c.args.advert) advert told c.in_ok-refs.ensures, asked, written)

pub returns-clause-wear : goal.returns-clause-wear
returns-clause-wear g c =
    wears_then c.in_ok-known.ensures.wear (λ _. c.in_ok-known.ensures.same) (search rules)
    (wears_then c.in_ok-open.ensures.wear (λ _. c.in_ok-open.ensures.same) (search rules) (writes_told (wears_writes c.in_ok-bytes.ensures.wear (λ _. c.in_ok-bytes.ensures.same)) (search rules) (search rules)))

pub returns-in_err-open-clause-looks : goal.returns-in_err-open-clause-looks
returns-in_err-open-clause-looks g c = λ honest agrees r p m advert. inr (wears_both c.in_ok-known.ensures.wear c.in_err-open.ensures.wear (search rules))

pub returns-in_err-wants-clause-outside : goal.returns-in_err-wants-clause-outside
returns-in_err-wants-clause-outside g c = λ honest. outside_kept (g.F.Files.content c.args.files.now) (g.F.Files.content c.open_ids.new.files) (c.in_ok-open.ensures.same ∙ c.in_ok-known.ensures.same)

pub returns-in_err-wants-clause-bad : goal.returns-in_err-wants-clause-bad
returns-in_err-wants-clause-bad g c = λ honest. bad_same (g.F.Files.content c.args.files.now) (g.F.Files.content c.open_ids.new.files) (c.in_ok-open.ensures.same ∙ c.in_ok-known.ensures.same)

pub returns-in_err-wants-clause-looks : goal.returns-in_err-wants-clause-looks
returns-in_err-wants-clause-looks g c = λ honest agrees r p m advert. inr (wears_both c.in_ok-known.ensures.wear c.in_ok-open.ensures.wear (search rules))

pub returns-in_err-bytes-clause-cut : goal.returns-in_err-bytes-clause-cut
returns-in_err-bytes-clause-cut g c = λ honest agrees r p m advert.
    on_err c.from_residual-in_err-bytes.result _ (none_received (g.F.Files.content c.args.files.now) (g.F.Files.content c.want_message.new.files) r AnAdvert m (c.in_err-bytes.ensures.same ∙ c.in_ok-open.ensures.same ∙ c.in_ok-known.ensures.same) p)

pub returns-in_err-bytes-clause-refused : goal.returns-in_err-bytes-clause-refused
returns-in_err-bytes-clause-refused g c = λ honest agrees.
    let seen = g.F.Files.content c.open_ids.new.files in
    let e = c.in_err-bytes.field-0.0 in
    let why : BlamesWanting seen e = search (rules, c.in_err-bytes.ensures.refused honest) in
    wanting_kept (g.F.Files.content c.args.files.now) seen e c.from_residual-in_err-bytes.result (c.in_ok-open.ensures.same ∙ c.in_ok-known.ensures.same) (search rules) why

pub returns-in_err-bytes-clause-outside : goal.returns-in_err-bytes-clause-outside
returns-in_err-bytes-clause-outside g c = λ honest. outside_kept (g.F.Files.content c.args.files.now) (g.F.Files.content c.want_message.new.files) (c.in_err-bytes.ensures.same ∙ c.in_ok-open.ensures.same ∙ c.in_ok-known.ensures.same)

pub returns-in_err-bytes-clause-bad : goal.returns-in_err-bytes-clause-bad
returns-in_err-bytes-clause-bad g c = λ honest. bad_same (g.F.Files.content c.args.files.now) (g.F.Files.content c.want_message.new.files) (c.in_err-bytes.ensures.same ∙ c.in_ok-open.ensures.same ∙ c.in_ok-known.ensures.same)

pub returns-clause-outside : goal.returns-clause-outside
returns-clause-outside g c = λ honest. outside_kept (g.F.Files.content c.args.files.now) (g.F.Files.content c.want_message.new.files) (c.in_ok-bytes.ensures.same ∙ c.in_ok-open.ensures.same ∙ c.in_ok-known.ensures.same)

pub returns-clause-bad : goal.returns-clause-bad
returns-clause-bad g c = λ honest. bad_same (g.F.Files.content c.args.files.now) (g.F.Files.content c.want_message.new.files) (c.in_ok-bytes.ensures.same ∙ c.in_ok-open.ensures.same ∙ c.in_ok-known.ensures.same)

pub returns-clause-looks : goal.returns-clause-looks
returns-clause-looks g c = λ honest agrees r p m advert. inr (wears_both c.in_ok-known.ensures.wear (wears_both c.in_ok-open.ensures.wear c.in_ok-bytes.ensures.wear (search rules)) (λ told. told))

-- ---- what is learnt
pub returns-in_err-refs-clause-learns : goal.returns-in_err-refs-clause-learns
returns-in_err-refs-clause-learns g c = λ honest agrees.
    let is : c.from_residual.result ≡ Err (exchange.Fault Memory) = search rules in
    faulted _ _ _ _ c.from_residual.result Memory is agrees

pub returns-in_err-known-clause-learns : goal.returns-in_err-known-clause-learns
returns-in_err-known-clause-learns g c = λ honest agrees.
    let is : c.from_residual-in_err-known.result ≡ Err (exchange.Fault c.in_err-known.field-0.0) = search rules in
    faulted _ _ _ _ c.from_residual-in_err-known.result c.in_err-known.field-0.0 is (c.in_err-known.ensures.agrees honest agrees)

pub returns-in_err-open-clause-learns : goal.returns-in_err-open-clause-learns
returns-in_err-open-clause-learns g c = λ honest agrees.
    learnt_alone (c.in_ok-known.ensures.learnt honest agrees) (c.in_ok-known.ensures.agrees honest agrees) (ap refs (c.in_err-open.ensures.same ∙ c.in_ok-known.ensures.same))

pub returns-in_err-moved-clause-learns : goal.returns-in_err-moved-clause-learns
returns-in_err-moved-clause-learns g c = λ honest agrees.
    let content = g.F.Files.content in
    learnt_moved (c.in_ok-known.ensures.learnt honest agrees) (c.in_ok-known.ensures.agrees honest agrees) (content c.open_ids.new.files) (content c.move_refs.new.files) (ap refs (c.in_ok-open.ensures.same ∙ c.in_ok-known.ensures.same)) refl (c.in_err-moved.ensures.noted honest).noted

pub returns-then-is_empty-clause-learns : goal.returns-then-is_empty-clause-learns
returns-then-is_empty-clause-learns g c = λ honest agrees.
    let content = g.F.Files.content in
    learnt_moved (c.in_ok-known.ensures.learnt honest agrees) (c.in_ok-known.ensures.agrees honest agrees) (content c.open_ids.new.files) (content c.move_refs.new.files) (ap refs (c.in_ok-open.ensures.same ∙ c.in_ok-known.ensures.same)) refl (c.in_ok-moved.ensures.noted honest).noted

pub returns-in_err-wants-clause-refused : goal.returns-in_err-wants-clause-refused
returns-in_err-wants-clause-refused g c = λ honest agrees. told_err c.from_residual-in_err-wants.result (exchange.Fault Memory) (BlamesAdvert (g.F.Files.content c.args.files.now)) (search rules) (inl tt)

pub returns-in_err-wants-clause-learns : goal.returns-in_err-wants-clause-learns
returns-in_err-wants-clause-learns g c = λ honest agrees.
    learnt_alone (c.in_ok-known.ensures.learnt honest agrees) (c.in_ok-known.ensures.agrees honest agrees) (ap refs (c.in_ok-open.ensures.same ∙ c.in_ok-known.ensures.same))

pub returns-in_err-bytes-clause-learns : goal.returns-in_err-bytes-clause-learns
returns-in_err-bytes-clause-learns g c = λ honest agrees.
    learnt_alone (c.in_ok-known.ensures.learnt honest agrees) (c.in_ok-known.ensures.agrees honest agrees) (ap refs (c.in_err-bytes.ensures.same ∙ c.in_ok-open.ensures.same ∙ c.in_ok-known.ensures.same))

pub returns-clause-learns : goal.returns-clause-learns
returns-clause-learns g c = λ honest agrees.
    learnt_alone (c.in_ok-known.ensures.learnt honest agrees) (c.in_ok-known.ensures.agrees honest agrees) (ap refs (c.in_ok-bytes.ensures.same ∙ c.in_ok-open.ensures.same ∙ c.in_ok-known.ensures.same))
