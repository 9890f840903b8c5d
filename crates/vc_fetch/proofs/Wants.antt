-- What the lines of a want message give is what they spell.
use Rattle.std.proofs.Common.{◌≡◌, ℕ, ◌+◌, ◌<◌, ◌≤◌, Bool, true, false, cond, List, [], ◌∷◌, ◌++◌, length, get_or, Option, Some, None, Result, Ok, Err, refl, ap, sym, ◌∙◌, subst, arith, append_assoc, length-append}
use Rattle.std.specs.Prelude.{codes, nat_lt}
use Rattle.std.specs.Str.{bytes_eq}
use Rattle.std.proofs.lemmas.List.{append-nil}
use Rattle.std.proofs.lemmas.Bool.Decides.{nat_tests}
use Rattle.std.proofs.lemmas.Slice.Eq.{bytes_eq-Decides}
use Rattle.vc_object.specs.declared.id.ObjectId.{ObjectId}
use Rattle.vc_pkt.specs.Line.{LineText, flush, text}
use Rattle.vc_pkt.specs.TextLine.{without_lf}
use Rattle.vc_pkt.specs.Message.{Stepped, onward, complete, going, run, GivenBy}
use Rattle.vc_pkt.specs.declared.fault.PktFault.{PktFault}
use Rattle.vc_pkt.specs.declared.fault.PktFault.TheVariants.{TooMany}
use Rattle.vc_pkt.proofs.StreamLaws.{ok_same}
use Rattle.vc_fetch.specs.Ids.{IsIdLine, id_line, first_id_line}
use Rattle.vc_fetch.specs.Want.{WantText, AreIdLines, SpellsWant, WantState, wanting, having, one_more, want_step}
use Rattle.vc_fetch.proofs.IdLines.{line_some, line_again, first_some, first_again}

abbrev Step : Type 0
Step = Result (Stepped WantState WantText) PktFault

abbrev Next : Type 0
Next = WantState → Result WantText PktFault

abbrev room_or : List ObjectId → ObjectId → (List ObjectId → WantState) → Bool → Step
room_or ids id next b = cond b (Ok (onward (next (ids ++ id ∷ [])))) (Err TooMany)

-- a line that added an id
room_ok : (ids : List ObjectId) (id : ObjectId) (next : List ObjectId → WantState) (k : Next) (rest : List LineText) (n : ℕ) (w : WantText) (b : Bool) → nat_lt (length ids) 256 ≡ b → going (room_or ids id next b) k rest n ≡ Ok w
    → (length ids < 256) × (k (next (ids ++ id ∷ [])) ≡ Ok w)
room_ok ids id next k rest n w true is e = (grind (arith, nat_tests), e)
room_ok ids id next k rest n w false is e = absurd (cc e)

more_ok : (m : ℕ) (ids : List ObjectId) (o : Option ObjectId) (next : List ObjectId → WantState) (k : Next) (rest : List LineText) (n : ℕ) (w : WantText) → going (one_more m ids o next) k rest n ≡ Ok w
    → (id : ObjectId) × (o ≡ Some id) × (length ids < 256) × (k (next (ids ++ id ∷ [])) ≡ Ok w)
more_ok m ids None next k rest n w e = absurd (cc e)
more_ok m ids (Some id) next k rest n w e = let r = room_ok ids id next k rest n w (nat_lt (length ids) 256) refl e in (id, refl, r.0, r.1)

more_room : (m : ℕ) (ids : List ObjectId) (id : ObjectId) (next : List ObjectId → WantState) (k : Next) (rest : List LineText) (n : ℕ) → length ids < 256 → going (one_more m ids (Some id) next) k rest n ≡ k (next (ids ++ id ∷ []))
more_room m ids id next k rest n h =
    let fits : nat_lt (length ids) 256 ≡ true = grind (arith, nat_tests) in
    ap (λ b. going (room_or ids id next b) k rest n) fits

-- ---- the haves
abbrev done_or : ℕ → List ObjectId → List ObjectId → List ℕ → Bool → Step
done_or n ws hs line b = cond b (Ok (complete (record { wants = ws; haves = hs }))) (one_more n hs (id_line (codes "have ") line) (having ws))

pub record Haves (ws hs : List ObjectId) (lines : List LineText) (w : WantText) : Type 0 where
  pub held : List ObjectId
  pub there : List LineText
  pub last : List ℕ
  pub each : AreIdLines (codes "have ") held there
  pub ends : without_lf last ≡ codes "done"
  pub few : length (hs ++ held) ≤ 256
  pub whole : lines ≡ there ++ text last ∷ []
  pub is : w ≡ record { wants = ws; haves = hs ++ held }

done_end : (ws hs : List ObjectId) (line : List ℕ) (k : Next) (rest : List LineText) (n : ℕ) (w : WantText) → length hs ≤ 256 → without_lf line ≡ codes "done" → going (Ok (complete (record { wants = ws; haves = hs }))) k rest n ≡ Ok w → Haves ws hs (text line ∷ rest) w
done_end ws hs line k [] n w few is e =
    let none : hs ++ [] ≡ hs = append-nil hs in record {
      held = [];
      there = [];
      last = line;
      each = refl;
      ends = is;
      few = let len = ap length none in omega arith;
      whole = refl;
      is = sym (ok_same _ w e) ∙ ap (λ t. record { wants = ws; haves = t }) (sym none);
    }
done_end ws hs line k (l ∷ ls) n w few is e = absurd (cc e)

have_first : (ws hs : List ObjectId) (id : ObjectId) (line : List ℕ) (rest : List LineText) (w : WantText) → IsIdLine (codes "have ") id line → Haves ws (hs ++ id ∷ []) rest w → Haves ws hs (text line ∷ rest) w
have_first ws hs id line rest w h r =
    let same : (hs ++ id ∷ []) ++ r.held ≡ hs ++ id ∷ r.held = append_assoc hs (id ∷ []) r.held in record {
      held = id ∷ r.held;
      there = text line ∷ r.there;
      last = r.last;
      each = (h, r.each);
      ends = r.ends;
      few = let len = ap length same in let f = r.few in omega arith;
      whole = ap (λ t. text line ∷ t) r.whole;
      is = r.is ∙ ap (λ t. record { wants = ws; haves = t }) same;
    }

have_line : (line : List ℕ) (rest : List LineText) (n : ℕ) (ws hs : List ObjectId) (w : WantText) (b : Bool)
    → ((hs : List ObjectId) → length hs ≤ 256 → run want_step (n + 1) (having ws hs) rest ≡ Ok w → Haves ws hs rest w)
    → length hs ≤ 256 → bytes_eq (without_lf line) (codes "done") ≡ b → going (done_or n ws hs line b) (λ t. run want_step (n + 1) t rest) rest (n + 1) ≡ Ok w → Haves ws hs (text line ∷ rest) w
have_line line rest n ws hs w true ih few is e = done_end ws hs line (λ t. run want_step (n + 1) t rest) rest (n + 1) w few ((bytes_eq-Decides (without_lf line) (codes "done")).0 is) e
have_line line rest n ws hs w false ih few is e =
    let m = more_ok n hs (id_line (codes "have ") line) (having ws) (λ t. run want_step (n + 1) t rest) rest (n + 1) w e in
    let len = length-append hs (m.0 ∷ []) in
    have_first ws hs m.0 line rest w (line_some (codes "have ") line m.0 m.1) (ih (hs ++ m.0 ∷ []) (let l = m.2 in omega arith) m.3)

haves_of : (lines : List LineText) (n : ℕ) (ws hs : List ObjectId) (w : WantText) → length hs ≤ 256 → run want_step n (having ws hs) lines ≡ Ok w → Haves ws hs lines w
haves_of [] n ws hs w few e = absurd (cc e)
haves_of (flush ∷ ls) n ws hs w few e = absurd (cc e)
haves_of (text line ∷ rest) n ws hs w few e = have_line line rest n ws hs w (bytes_eq (without_lf line) (codes "done")) (λ hs' few' e'. haves_of rest (n + 1) ws hs' w few' e') few refl e

-- ---- the wants after the first
pub record Wants (ws : List ObjectId) (lines : List LineText) (w : WantText) : Type 0 where
  pub ids : List ObjectId
  pub others : List LineText
  pub tail : List LineText
  pub each : AreIdLines (codes "want ") ids others
  pub few : length (ws ++ ids) ≤ 256
  pub whole : lines ≡ others ++ flush ∷ tail
  pub rest : Haves (ws ++ ids) [] tail w

wants_of : (lines : List LineText) (n : ℕ) (i : ObjectId) (is : List ObjectId) (w : WantText) → length (i ∷ is) ≤ 256 → run want_step n (wanting (i ∷ is)) lines ≡ Ok w → Wants (i ∷ is) lines w
wants_of [] n i is w few e = absurd (cc e)
wants_of (flush ∷ tail) n i is w few e =
    let h = haves_of tail (n + 1) (i ∷ is) [] w (omega arith) e in
    let none : (i ∷ is) ++ [] ≡ i ∷ is = append-nil (i ∷ is) in
    record { ids = []; others = []; tail = tail; each = refl; few = let len = ap length none in omega arith; whole = refl; rest = subst (λ t. Haves t [] tail w) (sym none) h }
wants_of (text line ∷ rest) n i is w few e =
    let m = more_ok n (i ∷ is) (id_line (codes "want ") line) wanting (λ t. run want_step (n + 1) t rest) rest (n + 1) w e in
    let len = length-append (i ∷ is) (m.0 ∷ []) in
    let r = wants_of rest (n + 1) i (is ++ m.0 ∷ []) w (let l = m.2 in omega arith) m.3 in
    let same : (i ∷ (is ++ m.0 ∷ [])) ++ r.ids ≡ (i ∷ is) ++ m.0 ∷ r.ids = append_assoc (i ∷ is) (m.0 ∷ []) r.ids in
    record {
      ids = m.0 ∷ r.ids;
      others = text line ∷ r.others;
      tail = r.tail;
      each = (line_some (codes "want ") line m.0 m.1, r.each);
      few = let l = ap length same in let f = r.few in omega arith;
      whole = ap (λ t. text line ∷ t) r.whole;
      rest = subst (λ t. Haves t [] r.tail w) same r.rest;
    }

pub want_spelled : (w : WantText) (lines : List LineText) → GivenBy want_step (wanting []) w lines → SpellsWant w lines
want_spelled w [] e = absurd (cc e)
want_spelled w (flush ∷ ls) e = absurd (cc e)
want_spelled w (text line ∷ rest) e =
    let m = more_ok 0 [] (first_id_line (codes "want ") line) wanting (λ t. run want_step 1 t rest) rest 1 w e in
    let r = wants_of rest 1 m.0 [] w (omega arith) m.3 in
    let h = r.rest in
    let wants : w.wants ≡ m.0 ∷ r.ids = ap (λ (t : WantText). t.wants) h.is in
    let haves : w.haves ≡ h.held = ap (λ (t : WantText). t.haves) h.is in
    record {
      id = m.0;
      ids = r.ids;
      first = line;
      others = r.others;
      there = h.there;
      last = h.last;
      some = wants;
      begins = first_some (codes "want ") line m.0 m.1;
      wanted = r.each;
      held = subst (λ t. AreIdLines (codes "have ") t h.there) (sym haves) h.each;
      ends = h.ends;
      few_wants = let l = ap length wants in let f = r.few in omega arith;
      few_haves = let l = ap length haves in let f = h.few in omega arith;
      whole = ap (λ t. text line ∷ t) (r.whole ∙ ap (λ t. r.others ++ flush ∷ t) h.whole);
    }

-- ---- and the other way round
have_no_done : (digits line : List ℕ) → without_lf line ≡ codes "have " ++ digits → bytes_eq (without_lf line) (codes "done") ≡ false
have_no_done digits line e = by (bytes_eq (without_lf line) (codes "done")) refl
  where
    by : (b : Bool) → bytes_eq (without_lf line) (codes "done") ≡ b → b ≡ false
    by true is =
        let same : codes "have " ++ digits ≡ codes "done" = sym e ∙ (bytes_eq-Decides (without_lf line) (codes "done")).0 is in
        let h : ◌≡◌ {A = ℕ} 104 100 = ap (λ (xs : List ℕ). get_or xs 0 0) same in
        absurd (omega arith)
    by false is = refl

haves_run : (held : List ObjectId) (there : List LineText) (n : ℕ) (ws hs : List ObjectId) (last : List ℕ) → AreIdLines (codes "have ") held there → without_lf last ≡ codes "done" → length (hs ++ held) ≤ 256
    → run want_step n (having ws hs) (there ++ text last ∷ []) ≡ Ok (record { wants = ws; haves = hs ++ held })
haves_run [] there n ws hs last each ends few =
    ap (λ t. run want_step n (having ws hs) (t ++ text last ∷ [])) each
    ∙ ap (λ b. going (done_or n ws hs last b) (λ t. run want_step (n + 1) t []) [] (n + 1)) ((bytes_eq-Decides (without_lf last) (codes "done")).1 ends)
    ∙ ap (λ t. Ok (record { wants = ws; haves = t })) (sym (append-nil hs))
haves_run (id ∷ held) [] n ws hs last each ends few = absurd each
haves_run (id ∷ held) (flush ∷ there) n ws hs last each ends few = absurd each
haves_run (id ∷ held) (text line ∷ there) n ws hs last (h, each) ends few =
    let k : Next = λ t. run want_step (n + 1) t (there ++ text last ∷ []) in
    let same : (hs ++ id ∷ []) ++ held ≡ hs ++ id ∷ held = append_assoc hs (id ∷ []) held in
    let len = length-append hs (id ∷ held) in
    ap (λ b. going (done_or n ws hs line b) k (there ++ text last ∷ []) (n + 1)) (have_no_done h.digits line h.spelled)
    ∙ ap (λ o. going (one_more n hs o (having ws)) k (there ++ text last ∷ []) (n + 1)) (line_again (codes "have ") line id h)
    ∙ more_room n hs id (having ws) k (there ++ text last ∷ []) (n + 1) (omega arith)
    ∙ haves_run held there (n + 1) ws (hs ++ id ∷ []) last each ends (let l = ap length same in omega arith)
    ∙ ap (λ t. Ok (record { wants = ws; haves = t })) same

wants_run : (ids : List ObjectId) (others : List LineText) (n : ℕ) (i : ObjectId) (is : List ObjectId) (tail : List LineText) (w : WantText) → AreIdLines (codes "want ") ids others → length ((i ∷ is) ++ ids) ≤ 256
    → ((m : ℕ) → run want_step m (having ((i ∷ is) ++ ids) []) tail ≡ Ok w) → run want_step n (wanting (i ∷ is)) (others ++ flush ∷ tail) ≡ Ok w
wants_run [] others n i is tail w each few k =
    ap (λ t. run want_step n (wanting (i ∷ is)) (t ++ flush ∷ tail)) each ∙ ap (λ t. run want_step (n + 1) (having t []) tail) (sym (append-nil (i ∷ is))) ∙ k (n + 1)
wants_run (id ∷ ids) [] n i is tail w each few k = absurd each
wants_run (id ∷ ids) (flush ∷ others) n i is tail w each few k = absurd each
wants_run (id ∷ ids) (text line ∷ others) n i is tail w (h, each) few k =
    let next : Next = λ t. run want_step (n + 1) t (others ++ flush ∷ tail) in
    let same : (i ∷ (is ++ id ∷ [])) ++ ids ≡ (i ∷ is) ++ id ∷ ids = append_assoc (i ∷ is) (id ∷ []) ids in
    let len = length-append (i ∷ is) (id ∷ ids) in
    ap (λ o. going (one_more n (i ∷ is) o wanting) next (others ++ flush ∷ tail) (n + 1)) (line_again (codes "want ") line id h)
    ∙ more_room n (i ∷ is) id wanting next (others ++ flush ∷ tail) (n + 1) (omega arith)
    ∙ wants_run ids others (n + 1) i (is ++ id ∷ []) tail w each (let l = ap length same in omega arith)
    (λ m. ap (λ t. run want_step m (having t []) tail) same ∙ k m)

pub want_given : (w : WantText) (lines : List LineText) → SpellsWant w lines → GivenBy want_step (wanting []) w lines
want_given w lines s =
    let tail = s.there ++ text s.last ∷ [] in
    let rest = s.others ++ flush ∷ tail in
    let next : Next = λ t. run want_step 1 t rest in
    let same : w ≡ record { wants = s.id ∷ s.ids; haves = w.haves } = ap (λ t. record { wants = t; haves = w.haves }) s.some in
    let few = ap length s.some in let f = s.few_wants in
    ap (run want_step 0 (wanting [])) s.whole
    ∙ ap (λ o. going (one_more 0 [] o wanting) next rest 1) (first_again (codes "want ") s.first s.id s.begins)
    ∙ more_room 0 [] s.id wanting next rest 1 (omega arith)
    ∙ wants_run s.ids s.others 1 s.id [] tail w s.wanted (omega arith)
    (λ m. haves_run w.haves s.there m (s.id ∷ s.ids) [] s.last s.held s.ends s.few_haves ∙ ap Ok (sym same))
