use Rattle.std.proofs.Common.{Some, arith, rules, ◌≡◌, ◌⊎◌, inl, inr, ℕ, zero, suc, ◌+◌, Bool, false, cond, Err, List, ◌∷◌, ◌++◌, take, drop, refl, sym, ap, ◌∙◌, subst, []}
use Rattle.std.specs.Prelude.{◌≢◌, Vec, codes, length}
use Rattle.std.specs.Global.{Global}
use Rattle.std.proofs.lemmas.List.{take_all}
use Rattle.vc_files.specs.FileMap.{FileMap, SameOutside}
use Rattle.vc_files.proofs.FileMapLemmas.{outside_same, outside_then}
use Rattle.vc_files.proofs.WearLemmas.{wears_writes, writes_both, writes_told}
use Rattle.vc_history.specs.Stored.{AgreesIn}
use Rattle.vc_model.specs.Repository.{changed_all}
use Rattle.vc_object.specs.declared.id.ObjectId.{ObjectId}
use Rattle.vc_refs.specs.Refs.{packed_map, refs}
use Rattle.vc_quarantine.proofs.CleanLemmas.{bad_same, bad_then}
use Rattle.vc_quarantine.proofs.WearLemmas.{wears_both, wears_told}
use Rattle.vc_tracking.specs.Faults.{BlamesFiles, from_refs}
use Rattle.vc_tracking.specs.Learning.{AreNoted}
use Rattle.vc_tracking.specs.Moving.{AreFrontMoved, AreMoved, IsMove, IsRight, MayMove, MovesSome, Told, told_in}
use Rattle.vc_tracking.specs.declared.fault.ExchangeFault.TheVariants as exchange
use Rattle.vc_files.specs.declared.faults.Fault.TheVariants.{Memory}
use Rattle.vc_tracking.proofs.LearningLemmas.{none_counted, noted_at, noted_more, noted_moved, noted_none, noted_stayed, pushed_length, pushed_off}
use Rattle.vc_tracking.proofs.MovingFronts.{front_moved, more_moved, move_where, next_moves, none_moved, one_moved, some_moved}
use Rattle.vc_tracking.proofs.MovingLoops.{agrees_after, blames_before, front_more, front_next, front_rest, packed_blames, packed_kept, told_err, told_of, whole_after}
use Rattle.vc_tracking.proofs.moving.move_refs.Goals.{then-branch, else-branch}
use Rattle.vc_tracking.proofs.moving.move_refs.Goals as goal
use Rattle.vc_lemmas.proofs.Lists.{on_err}

abbrev items_in : Vec ObjectId Global → List ObjectId
items_in v = v.items

abbrev count : Bool → ℕ
count moved = cond moved 1 0

zero_or : (n : ℕ) → (n ≡ 0) ⊎ (n ≢ 0)
zero_or zero = inl refl
zero_or (suc n) = inr (λ e. omega (arith, e))

pub returns-in_err-held-clause-left : goal.returns-in_err-held-clause-left
returns-in_err-held-clause-left g c = λ honest r p.
    let content = g.F.Files.content in
    let old = content c.args.files.now in
    let Whole : Type 0 = IsRight old c.args.known.now c.args.generations.now in
    let told = told_in c.args.told.now in
    let front : AreFrontMoved Whole c.args.followed told r old = front_moved c.args.followed Whole [] told old r p old 0 (none_moved c.args.followed Whole old r p) in
    on_err c.from_residual.result _ (subst (AreFrontMoved Whole c.args.followed told r) (sym c.in_err-held.ensures.same) front)

pub returns-in_err-held-clause-noted : goal.returns-in_err-held-clause-noted
returns-in_err-held-clause-noted g c = λ honest.
    let content = g.F.Files.content in
    let old = content c.args.files.now in
    let is : c.from_residual.result ≡ Err (from_refs c.in_err-held.field-0.0) = search rules in
    record {
      noted = subst (λ (f : FileMap). AreNoted (refs old) (refs f) c.args.due.now.items c.args.due.now.items) (sym c.in_err-held.ensures.same) (noted_none (refs old) c.args.due.now.items);
      counted = none_counted c.from_residual.result (from_refs c.in_err-held.field-0.0) _ is;
    }

pub returns-in_err-held-clause-refused : goal.returns-in_err-held-clause-refused
returns-in_err-held-clause-refused g c = λ honest agrees.
    let old = g.F.Files.content c.args.files.now in
    told_err c.from_residual.result (from_refs c.in_err-held.field-0.0) (BlamesFiles old) (search rules) (packed_blames old c.in_err-held.field-0.0 (c.in_err-held.ensures.refused honest))

pub returns-in_err-held-clause-outside : goal.returns-in_err-held-clause-outside
returns-in_err-held-clause-outside g c = λ honest. subst (SameOutside (codes "refs/") (g.F.Files.content c.args.files.now)) (sym c.in_err-held.ensures.same) (outside_same _ _)

pub returns-in_err-held-clause-bad : goal.returns-in_err-held-clause-bad
returns-in_err-held-clause-bad g c = λ honest. bad_same _ _ c.in_err-held.ensures.same

pub returns-in_err-held-clause-wear : goal.returns-in_err-held-clause-wear
returns-in_err-held-clause-wear g c = writes_told (wears_writes c.in_err-held.ensures.wear (λ _. c.in_err-held.ensures.same)) (search rules) (search rules)

pub returns-in_err-held-clause-looks : goal.returns-in_err-held-clause-looks
returns-in_err-held-clause-looks g c = λ honest r p. inr (wears_told c.in_err-held.ensures.wear (search rules))

pub move_ref-requires : goal.move_ref-requires
move_ref-requires g c = c.loop-name.invariant.read

pub loop-name-init : goal.loop-name-init
loop-name-init g c =
    let content = g.F.Files.content in
    let old = content c.args.files.now in
    let back = sym c.in_ok-held.ensures.same in
    let Whole : Type 0 = IsRight old c.args.known.now c.args.generations.now in
    record {
      moves = λ honest r p. subst (λ (f : FileMap). AreMoved Whole c.args.followed [] r f 0) back (none_moved c.args.followed Whole old r p);
      noted = λ honest. subst (λ (f : FileMap). AreNoted (refs old) (refs f) c.args.due.now.items c.args.due.now.items) back (noted_none (refs old) c.args.due.now.items);
      taken = omega arith;
      known = λ honest right. subst (λ (f : FileMap). IsRight f c.args.known.now c.args.generations.now) back right;
      agrees = λ honest agrees. subst (λ (f : FileMap). AgreesIn f c.args.generations.now) back agrees;
      read = λ honest. let there : packed_map (g.F.Files.content c.read_packed.new.files) ≡ Some c.in_ok-held.held = rw c.in_ok-held.ensures.same (c.in_ok-held.ensures.found honest) in search (rules, there);
      outside = λ honest. subst (SameOutside (codes "refs/") old) back (outside_same _ _);
      bad = λ honest. bad_same _ _ c.in_ok-held.ensures.same;
      counted = omega arith;
      looked = λ honest none. inr (wears_told c.in_ok-held.ensures.wear (λ never. absurd never));
      wear = writes_told (wears_writes c.in_ok-held.ensures.wear (λ _. c.in_ok-held.ensures.same)) (search rules) (λ never. absurd never);
    }

pub loop-name-preserved : goal.loop-name-preserved
loop-name-preserved g c =
    let content = g.F.Files.content in
    let before = c.loop-name.invariant in
    let followed = c.args.followed in
    let told = c.args.told.now in
    let i = c.loop-name.name-index in
    let n = c.loop-name.moved in
    let item = c.loop-name-item.result in
    let yes = c.in_ok-move_ref.field-0 in
    let counts : c.if-branch.moved ≡ n + count yes = elim c.if-branch.branch [
      | then-branch w ↦ let one : count yes ≡ 1 = ap count w.if-branch.true in let is = w.moved-is in omega (arith, one, is)
      | else-branch w ↦ let none : count yes ≡ 0 = ap count w.if-branch.false in let is = w.moved-is in omega (arith, none, is)
    ] in
    let Whole : Type 0 = IsRight (content c.args.files.now) c.args.known.now c.args.generations.now in
    record {
      moves = λ honest r p.
          let so_far = before.moves honest r p in
          let step : IsMove Whole followed (content c.loop-name.files) (content c.move_ref.new.files) item.0.items item.1 yes =
          subst (λ (name : List ℕ). IsMove Whole followed (content c.loop-name.files) (content c.move_ref.new.files) name item.1 yes) c.deref.ensures.value
          (move_where (before.known honest) followed (content c.loop-name.files) (content c.move_ref.new.files) c.deref.result.now item.1 yes (c.in_ok-move_ref.ensures.moved honest)) in
          let one = one_moved followed Whole (content c.loop-name.files) (changed_all so_far.changes r) so_far.content (content c.move_ref.new.files) (c.in_ok-move_ref.ensures.outside honest) item.0.items item.1 yes step in
          let both = more_moved followed Whole (told_in (take i told)) (told_of item ∷ []) r (content c.loop-name.files) (content c.move_ref.new.files) n (count yes) so_far one in
          subst (λ (k : ℕ). AreMoved Whole followed (told_in (take (i + 1) told)) r (content c.move_ref.new.files) k) (sym counts)
          (subst (λ (l : List Told). AreMoved Whole followed l r (content c.move_ref.new.files) (n + count yes)) (front_more told i item c.loop-name-test.true c.loop-name-item.is) both);
      noted = λ honest.
          let n = before.noted honest in
          let Here : Type 0 = IsRight (content c.loop-name.files) c.loop-name.known c.args.generations.now in
          elim c.if-branch.branch [
            | then-branch w ↦
                let step = subst (λ (b : Bool). IsMove Here followed (content c.loop-name.files) (content c.move_ref.new.files) c.deref.result.now item.1 b) w.if-branch.true (c.in_ok-move_ref.ensures.moved honest) in
                subst (λ (l : List ObjectId). AreNoted (refs (content c.args.files.now)) (refs (content c.move_ref.new.files)) c.args.due.now.items l) (sym (ap items_in w.due-is ∙ c.in_ok-push.ensures.items))
                (noted_moved Here followed (refs (content c.args.files.now)) (content c.loop-name.files) (content c.move_ref.new.files) c.deref.result.now item.1 c.args.due.now.items c.loop-name.due.items step n)
            | else-branch w ↦
                let step = subst (λ (b : Bool). IsMove Here followed (content c.loop-name.files) (content c.move_ref.new.files) c.deref.result.now item.1 b) w.if-branch.false (c.in_ok-move_ref.ensures.moved honest) in
                let at : c.len-noted.result ≡ length c.loop-name.due.items = search (rules, c.len-noted.ensures) in
                let back = pushed_off c.loop-name.due.items item.1 c.push.new.self.items w.truncate.new.self.items c.len-noted.result at c.in_ok-push.ensures.items w.truncate.ensures.items in
                noted_stayed Here followed (refs (content c.args.files.now)) (content c.loop-name.files) (content c.move_ref.new.files) c.deref.result.now item.1 c.args.due.now.items c.loop-name.due.items c.if-branch.due.items step (ap items_in w.due-is ∙ back) n
          ];
      taken = elim c.if-branch.branch [
        | then-branch w ↦
            let is = w.moved-is in
            let long : length c.if-branch.due.items ≡ length c.loop-name.due.items + 1 = ap (λ (v : Vec ObjectId Global). length v.items) w.due-is ∙ pushed_length c.loop-name.due.items item.1 c.push.new.self.items c.in_ok-push.ensures.items in
            omega (arith, is, long, before.taken)
        | else-branch w ↦
            let is = w.moved-is in
            let at : c.len-noted.result ≡ length c.loop-name.due.items = search (rules, c.len-noted.ensures) in
            let back = pushed_off c.loop-name.due.items item.1 c.push.new.self.items w.truncate.new.self.items c.len-noted.result at c.in_ok-push.ensures.items w.truncate.ensures.items in
            let long : length c.if-branch.due.items ≡ length c.loop-name.due.items = ap length (ap items_in w.due-is ∙ back) in
            omega (arith, is, long, before.taken)
      ];
      known = λ honest right.
          let so = before.known honest right in
          record {
            whole = whole_after (content c.loop-name.files) (content c.move_ref.new.files) c.move_ref.new.known (c.in_ok-move_ref.ensures.outside honest) (c.in_ok-move_ref.ensures.known honest so.whole);
            agrees = agrees_after (content c.loop-name.files) (content c.move_ref.new.files) c.args.generations.now (c.in_ok-move_ref.ensures.outside honest) so.agrees;
          };
      agrees = λ honest agrees. agrees_after (content c.loop-name.files) (content c.move_ref.new.files) c.args.generations.now (c.in_ok-move_ref.ensures.outside honest) (before.agrees honest agrees);
      read = λ honest. packed_kept (content c.loop-name.files) (content c.move_ref.new.files) (c.in_ok-move_ref.ensures.outside honest) ∙ before.read honest;
      outside = λ honest. outside_then (before.outside honest) (c.in_ok-move_ref.ensures.outside honest);
      bad = λ honest. bad_then (before.bad honest) (c.in_ok-move_ref.ensures.bad honest);
      counted = elim c.if-branch.branch [
        | then-branch w ↦ let is = w.moved-is in omega (arith, is, before.counted)
        | else-branch w ↦ let is = w.moved-is in omega (arith, is, before.counted)
      ];
      looked = λ honest none. elim c.if-branch.branch [
        | then-branch w ↦ absurd (let is = w.moved-is in omega (arith, is, none))
        | else-branch w ↦
            let is = w.moved-is in
            let stayed : n ≡ 0 = omega (arith, is, none) in
            let step : IsMove (IsRight (content c.loop-name.files) c.loop-name.known c.args.generations.now) followed (content c.loop-name.files) (content c.move_ref.new.files) c.deref.result.now item.1 false =
            subst (λ (b : Bool). IsMove (IsRight (content c.loop-name.files) c.loop-name.known c.args.generations.now) followed (content c.loop-name.files) (content c.move_ref.new.files) c.deref.result.now item.1 b) w.if-branch.false (c.in_ok-move_ref.ensures.moved honest) in
            elim (before.looked honest stayed) [
              | inl never ↦ inl never
              | inr worn ↦ elim (c.in_ok-move_ref.ensures.looks honest) [
                | inl may ↦ inl (λ whole. let so = before.known honest whole in let m = may so in step.0 so m.0 m.1)
                | inr wears ↦ inr (wears_both worn wears (λ never. absurd never))
              ]
            ]
      ];
      wear = writes_both before.wear (λ never. never) (writes_told c.in_ok-move_ref.ensures.wear (search rules) (λ never. absurd never));
    }

pub returns-in_err-push-clause-left : goal.returns-in_err-push-clause-left
returns-in_err-push-clause-left g c = λ honest r p.
    let content = g.F.Files.content in
    let Whole : Type 0 = IsRight (content c.args.files.now) c.args.known.now c.args.generations.now in
    let told = c.args.told.now in
    let i = c.loop-name.name-index in
    let front = front_moved c.args.followed Whole (told_in (take i told)) (told_in (drop i told)) (content c.args.files.now) r p (content c.loop-name.files) c.loop-name.moved (c.loop-name.invariant.moves honest r p) in
    on_err c.from_residual-in_err-push.result _ (subst (λ (l : List Told). AreFrontMoved Whole c.args.followed l r (content c.loop-name.files)) (front_rest told i) front)

pub returns-in_err-push-clause-noted : goal.returns-in_err-push-clause-noted
returns-in_err-push-clause-noted g c = λ honest.
    let content = g.F.Files.content in
    let is : c.from_residual-in_err-push.result ≡ Err (exchange.Fault Memory) = search rules in
    record {
      noted = noted_at (refs (content c.args.files.now)) (content c.loop-name.files) (content c.loop-name.files) c.args.due.now.items c.loop-name.due.items c.push.new.self.items refl c.in_err-push.ensures.items (c.loop-name.invariant.noted honest);
      counted = none_counted c.from_residual-in_err-push.result (exchange.Fault Memory) _ is;
    }

pub returns-in_err-push-clause-wear : goal.returns-in_err-push-clause-wear
returns-in_err-push-clause-wear g c = writes_told c.loop-name.invariant.wear (search rules) (search rules)

pub returns-in_err-push-clause-looks : goal.returns-in_err-push-clause-looks
returns-in_err-push-clause-looks g c = λ honest r p.
    let content = g.F.Files.content in
    let Whole : Type 0 = IsRight (content c.args.files.now) c.args.known.now c.args.generations.now in
    let told = c.args.told.now in
    let i = c.loop-name.name-index in
    elim (zero_or c.loop-name.moved) [
      | inr some ↦ inl (λ whole. subst (λ (l : List Told). MovesSome c.args.followed l r) (front_rest told i)
          (some_moved c.args.followed Whole (told_in (take i told)) (told_in (drop i told)) (content c.args.files.now) r p (content c.loop-name.files) c.loop-name.moved (c.loop-name.invariant.moves honest r p) some whole))
      | inl none ↦ elim (c.loop-name.invariant.looked honest none) [ inl never ↦ inl (λ whole. absurd (never whole)) | inr worn ↦ inr (wears_told worn (search rules)) ]
    ]

pub returns-in_err-move_ref-clause-left : goal.returns-in_err-move_ref-clause-left
returns-in_err-move_ref-clause-left g c = λ honest r p.
    let content = g.F.Files.content in
    let Whole : Type 0 = IsRight (content c.args.files.now) c.args.known.now c.args.generations.now in
    let told = c.args.told.now in
    let i = c.loop-name.name-index in
    let same : content c.move_ref.new.files ≡ content c.loop-name.files = search (rules, c.in_err-move_ref.ensures.err honest) in
    let front = front_moved c.args.followed Whole (told_in (take i told)) (told_in (drop i told)) (content c.args.files.now) r p (content c.loop-name.files) c.loop-name.moved (c.loop-name.invariant.moves honest r p) in
    let left : AreFrontMoved Whole c.args.followed (told_in told) r (content c.loop-name.files) = subst (λ (l : List Told). AreFrontMoved Whole c.args.followed l r (content c.loop-name.files)) (front_rest told i) front in
    on_err c.from_residual-in_err-move_ref.result _ (subst (AreFrontMoved Whole c.args.followed (told_in told) r) (sym same) left)

pub returns-in_err-move_ref-clause-noted : goal.returns-in_err-move_ref-clause-noted
returns-in_err-move_ref-clause-noted g c = λ honest.
    let content = g.F.Files.content in
    let before = c.loop-name.due.items in
    let id = c.loop-name-item.result.1 in
    let same : content c.move_ref.new.files ≡ content c.loop-name.files = search (rules, c.in_err-move_ref.ensures.err honest) in
    let is : c.from_residual-in_err-move_ref.result ≡ Err c.in_err-move_ref.field-0.0 = search rules in
    record {
      noted = noted_at (refs (content c.args.files.now)) (content c.loop-name.files) (content c.move_ref.new.files) c.args.due.now.items (before ++ id ∷ []) c.push.new.self.items same c.in_ok-push.ensures.items
          (noted_more (refs (content c.args.files.now)) (refs (content c.loop-name.files)) c.args.due.now.items before id (c.loop-name.invariant.noted honest));
      counted = none_counted c.from_residual-in_err-move_ref.result c.in_err-move_ref.field-0.0 _ is;
    }

pub returns-in_err-move_ref-clause-refused : goal.returns-in_err-move_ref-clause-refused
returns-in_err-move_ref-clause-refused g c = λ honest agrees.
    let content = g.F.Files.content in
    let e = c.in_err-move_ref.field-0.0 in
    let why : BlamesFiles (content c.loop-name.files) e = search (rules, c.in_err-move_ref.ensures.refused honest (c.loop-name.invariant.agrees honest agrees)) in
    told_err c.from_residual-in_err-move_ref.result e (BlamesFiles (content c.args.files.now)) (search rules) (blames_before (content c.args.files.now) (content c.loop-name.files) (c.loop-name.invariant.bad honest) e why)

pub returns-in_err-move_ref-clause-wear : goal.returns-in_err-move_ref-clause-wear
returns-in_err-move_ref-clause-wear g c = writes_both c.loop-name.invariant.wear (λ never. never) (writes_told c.in_err-move_ref.ensures.wear (search rules) (search rules))

pub returns-in_err-move_ref-clause-looks : goal.returns-in_err-move_ref-clause-looks
returns-in_err-move_ref-clause-looks g c = λ honest r p.
    let content = g.F.Files.content in
    let Whole : Type 0 = IsRight (content c.args.files.now) c.args.known.now c.args.generations.now in
    let followed = c.args.followed in
    let told = c.args.told.now in
    let i = c.loop-name.name-index in
    let item = c.loop-name-item.result in
    let so_far = c.loop-name.invariant.moves honest r p in
    elim (zero_or c.loop-name.moved) [
      | inr some ↦ inl (λ whole. subst (λ (l : List Told). MovesSome followed l r) (front_rest told i)
          (some_moved followed Whole (told_in (take i told)) (told_in (drop i told)) (content c.args.files.now) r p (content c.loop-name.files) c.loop-name.moved so_far some whole))
      | inl none ↦ elim (c.loop-name.invariant.looked honest none) [
        | inl never ↦ inl (λ whole. absurd (never whole))
        | inr worn ↦ elim (c.in_err-move_ref.ensures.looks honest) [
          | inl may ↦ inl (λ whole.
              let m = may (c.loop-name.invariant.known honest whole) in
              let next : MayMove followed (content c.loop-name.files) item.0.items item.1 m.0 = subst (λ (name : List ℕ). MayMove followed (content c.loop-name.files) name item.1 m.0) c.deref.ensures.value m.1 in
              subst (λ (l : List Told). MovesSome followed l r) (front_next told i item c.loop-name-test.true c.loop-name-item.is)
              (next_moves followed Whole (told_in (take i told)) (told_in (drop (suc i) told)) item.0.items item.1 (content c.args.files.now) r p (content c.loop-name.files) c.loop-name.moved so_far m.0 whole next))
          | inr wears ↦ inr (wears_both worn wears (search rules))
        ]
      ]
    ]

pub returns-clause-noted : goal.returns-clause-noted
returns-clause-noted g c = λ honest. record { noted = c.loop-name.invariant.noted honest; counted = c.loop-name.invariant.taken }

pub returns-clause-moved : goal.returns-clause-moved
returns-clause-moved g c = λ honest r p.
    let Whole : Type 0 = IsRight (g.F.Files.content c.args.files.now) c.args.known.now c.args.generations.now in
    let told = c.args.told.now in
    let all : take c.loop-name.name-index told ≡ told = take_all c.loop-name.name-index told (omega (arith, c.loop-name-test.false)) in
    subst (λ l. AreMoved Whole c.args.followed (told_in l) r (g.F.Files.content c.loop-name.files) c.loop-name.moved) all (c.loop-name.invariant.moves honest r p)

pub returns-clause-looks : goal.returns-clause-looks
returns-clause-looks g c = λ honest r p.
    let content = g.F.Files.content in
    let Whole : Type 0 = IsRight (content c.args.files.now) c.args.known.now c.args.generations.now in
    let told = c.args.told.now in
    let i = c.loop-name.name-index in
    elim (zero_or c.loop-name.moved) [
      | inr some ↦ inl (λ whole. subst (λ (l : List Told). MovesSome c.args.followed l r) (front_rest told i)
          (some_moved c.args.followed Whole (told_in (take i told)) (told_in (drop i told)) (content c.args.files.now) r p (content c.loop-name.files) c.loop-name.moved (c.loop-name.invariant.moves honest r p) some whole))
      | inl none ↦ elim (c.loop-name.invariant.looked honest none) [ inl never ↦ inl (λ whole. absurd (never whole)) | inr worn ↦ inr (wears_told worn (search rules)) ]
    ]
