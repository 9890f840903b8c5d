-- Lines of commands, as the function that reads them sees them.
use Rattle.std.proofs.Common.{◌≡◌, ◌≢◌, ℕ, ◌==◌, ◌||◌, Bool, true, false, cond, List, ◌∷◌, ◌++◌, Option, Some, None, refl, ap, sym, ◌∙◌, subst, arith, []}
use Rattle.std.specs.List.{list_any}
use Rattle.std.proofs.lemmas.Bool.{or_parts}
use Rattle.std.proofs.lemmas.Bool.Decides.{nat_tests}
use Rattle.std.proofs.lemmas.Option.{same_Some}
use Rattle.hex.proofs.HexLemmas.{decode_sized-ok}
use Rattle.vc_object.specs.Bytes.{Without}
use Rattle.vc_object.specs.Items.{◌>>=◌}
use Rattle.vc_object.specs.Lines.{after_word, split}
use Rattle.vc_object.specs.declared.id.ObjectId.{ObjectId}
use Rattle.vc_object.proofs.Items.{bind_some}
use Rattle.vc_object.proofs.LineTexts.{after_word_some, after_word_again, split_some, split_again}
use Rattle.vc_object.proofs.Texts.{cut_found, cut_some}
use Rattle.vc_pkt.specs.TextLine.{without_lf}
use Rattle.vc_fetch.specs.Ids.{WritesId, id_of}
use Rattle.vc_fetch.specs.Advert.{IsName, is_break, is_name}
use Rattle.vc_fetch.proofs.IdLines.{id_some, id_again}
use Rattle.vc_fetch.proofs.RefLines.{name_is, name_again}
use Rattle.vc_push.specs.Push.{CommandText, IsCommandLine, IsFirstCommandLine, asks_atomic, spelled_command, named, name_cut, command_line}

-- ---- names
pub named_some : (words name : List ℕ) → named words ≡ Some name → IsName name × (words ≡ name)
named_some words name e = by (is_name words) refl e
  where
    by : (b : Bool) → is_name words ≡ b → cond b (Some words) None ≡ Some name → IsName name × (words ≡ name)
    by true is e = let same = same_Some words name e in (subst IsName same (name_is words is), same)
    by false is e = absurd (cc e)

pub named_again : (name : List ℕ) → IsName name → named name ≡ Some name
named_again name h = ap (λ b. cond b (Some name) None) (name_again name h)

-- a name has no NUL
no_nul : (name : List ℕ) → list_any is_break name ≡ false → Without 0 name
no_nul [] e = tt
no_nul (b ∷ name) e =
    let p = or_parts (is_break b) (list_any is_break name) e in
    let q = or_parts (b == 0) (b == 10 || b == 32) p.0 in
    let other : b ≢ 0 = let f = q.0 in grind (arith, nat_tests) in
    (other, no_nul name p.1)

-- what is cut off after a name: in the first line what stands after a NUL, else nothing
abbrev IsCut : Bool → List ℕ → List ℕ → List ℕ → Type 0
IsCut true words name more = words ≡ name ++ 0 ∷ more
IsCut false words name more = (words ≡ name) × (more ≡ [])

cut_is : (f : Bool) (words name more : List ℕ) → name_cut f words ≡ Some (name, more) → IsCut f words name more
cut_is true words name more e = (cut_some 0 words name more e).1
cut_is false words name more e = let same : ◌≡◌ {A = List ℕ × List ℕ} (words, []) (name, more) = same_Some _ _ e in (ap (λ p. p.0) same, sym (ap (λ p. p.1) same))

cut_again : (f : Bool) (words name more : List ℕ) → Without 0 name → IsCut f words name more → name_cut f words ≡ Some (name, more)
cut_again true words name more w is = ap (name_cut true) is ∙ cut_found 0 name more w
cut_again false words name more w (is, none) = ap (name_cut false) is ∙ ap (λ t. Some (name, t)) (sym none)

-- ---- lines
abbrev Found : Type 0
Found = Option (CommandText × Bool)

abbrev name_or : ObjectId → ObjectId → List ℕ → List ℕ → Found
name_or old new more name = Some (record { old = old; new = new; name = name }, asks_atomic more)

abbrev cuts_or : ObjectId → ObjectId → List ℕ × List ℕ → Found
cuts_or old new cuts = named cuts.0 >>= name_or old new cuts.1

abbrev words_or : Bool → ObjectId → ObjectId → List ℕ → Found
words_or f old new words = name_cut f words >>= cuts_or old new

abbrev new_or : Bool → ObjectId → List ℕ → ObjectId → Found
new_or f old rest new = after_word (32 ∷ []) rest >>= words_or f old new

abbrev others_or : Bool → ObjectId → List ℕ × List ℕ → Found
others_or f old parts = id_of parts.0 >>= new_or f old parts.1

abbrev rest_or : Bool → ObjectId → List ℕ → Found
rest_or f old rest = split 40 rest >>= others_or f old

abbrev old_or : Bool → List ℕ → ObjectId → Found
old_or f rest old = after_word (32 ∷ []) rest >>= rest_or f old

abbrev parts_or : Bool → List ℕ × List ℕ → Found
parts_or f parts = id_of parts.0 >>= old_or f parts.1

-- what a line is cut into
record Parts (f : Bool) (command : CommandText) (atomic : Bool) (line : List ℕ) : Type 0 where
  old : List ℕ
  new : List ℕ
  words : List ℕ
  more : List ℕ
  writes_old : WritesId command.old old
  writes_new : WritesId command.new new
  name : IsName command.name
  cuts : IsCut f words command.name more
  asks : atomic ≡ asks_atomic more
  spelled : without_lf line ≡ spelled_command old new words

parts_some : (f : Bool) (line : List ℕ) (found : CommandText × Bool) → command_line f line ≡ Some found → Parts f found.0 found.1 line
unfolding command_line
parts_some f line found e =
    let a = bind_some (split 40 (without_lf line)) (parts_or f) found e in
    let b = bind_some (id_of a.0.0) (old_or f a.0.1) found a.2 in
    let c = bind_some (after_word (32 ∷ []) a.0.1) (rest_or f b.0) found b.2 in
    let d = bind_some (split 40 c.0) (others_or f b.0) found c.2 in
    let g = bind_some (id_of d.0.0) (new_or f b.0 d.0.1) found d.2 in
    let h = bind_some (after_word (32 ∷ []) d.0.1) (words_or f b.0 g.0) found g.2 in
    let k = bind_some (name_cut f h.0) (cuts_or b.0 g.0) found h.2 in
    let n = bind_some (named k.0.0) (name_or b.0 g.0 k.0.1) found k.2 in
    let same : ◌≡◌ {A = CommandText × Bool} (record { old = b.0; new = g.0; name = n.0 }, asks_atomic k.0.1) found = same_Some (record { old = b.0; new = g.0; name = n.0 }, asks_atomic k.0.1) found n.2 in
    let is = named_some k.0.0 n.0 n.1 in
    record {
      old = a.0.0;
      new = d.0.0;
      words = h.0;
      more = k.0.1;
      writes_old = id_some a.0.0 found.0.old (b.1 ∙ ap (λ (p : CommandText × Bool). Some p.0.old) same);
      writes_new = id_some d.0.0 found.0.new (g.1 ∙ ap (λ (p : CommandText × Bool). Some p.0.new) same);
      name = subst (λ (p : CommandText × Bool). IsName p.0.name) same is.0;
      cuts = subst (λ t. IsCut f h.0 t k.0.1) (is.1 ∙ ap (λ (p : CommandText × Bool). p.0.name) same) (cut_is f h.0 k.0.0 k.0.1 k.1);
      asks = sym (ap (λ (p : CommandText × Bool). p.1) same);
      spelled =
          split_some 40 (without_lf line) a.0 a.1
          ∙ ap (λ t. a.0.0 ++ t) (after_word_some (32 ∷ []) a.0.1 c.0 c.1 ∙ ap (λ t. 32 ∷ t) (split_some 40 c.0 d.0 d.1 ∙ ap (λ t. d.0.0 ++ t) (after_word_some (32 ∷ []) d.0.1 h.0 h.1)));
    }

parts_again : (f : Bool) (line : List ℕ) (command : CommandText) (atomic : Bool) → Parts f command atomic line → command_line f line ≡ Some (command, atomic)
unfolding command_line
parts_again f line command atomic p =
    let long = decode_sized-ok p.old 20 command.old.0 p.writes_old in
    let long_new = decode_sized-ok p.new 20 command.new.0 p.writes_new in
    ap (λ t. split 40 t >>= parts_or f) p.spelled
    ∙ ap (λ o. o >>= parts_or f) (split_again 40 p.old (32 ∷ (p.new ++ 32 ∷ p.words)) long)
    ∙ ap (λ o. o >>= old_or f (32 ∷ (p.new ++ 32 ∷ p.words))) (id_again p.old command.old p.writes_old)
    ∙ ap (λ o. o >>= rest_or f command.old) (after_word_again (32 ∷ []) (p.new ++ 32 ∷ p.words))
    ∙ ap (λ o. o >>= others_or f command.old) (split_again 40 p.new (32 ∷ p.words) long_new)
    ∙ ap (λ o. o >>= new_or f command.old (32 ∷ p.words)) (id_again p.new command.new p.writes_new)
    ∙ ap (λ o. o >>= words_or f command.old command.new) (after_word_again (32 ∷ []) p.words)
    ∙ ap (λ o. o >>= cuts_or command.old command.new) (cut_again f p.words command.name p.more (no_nul command.name p.name.plain) p.cuts)
    ∙ ap (λ o. o >>= name_or command.old command.new p.more) (named_again command.name p.name)
    ∙ ap (λ b. Some (command, b)) (sym p.asks)

pub command_some : (line : List ℕ) (found : CommandText × Bool) → command_line false line ≡ Some found → IsCommandLine found.0 line × (found.1 ≡ false)
command_some line found e =
    let p = parts_some false line found e in (
      record { old = p.old; new = p.new; writes_old = p.writes_old; writes_new = p.writes_new; name = p.name; spelled = p.spelled ∙ ap (λ w. spelled_command p.old p.new w) p.cuts.0 },
      p.asks ∙ ap asks_atomic p.cuts.1,
    )

pub command_again : (line : List ℕ) (command : CommandText) → IsCommandLine command line → command_line false line ≡ Some (command, false)
command_again line command h =
    parts_again false line command false (record {
      old = h.old;
      new = h.new;
      words = command.name;
      more = [];
      writes_old = h.writes_old;
      writes_new = h.writes_new;
      name = h.name;
      cuts = (refl, refl);
      asks = refl;
      spelled = h.spelled;
    })

pub first_command_some : (line : List ℕ) (found : CommandText × Bool) → command_line true line ≡ Some found → IsFirstCommandLine found.1 found.0 line
first_command_some line found e =
    let p = parts_some true line found e in
    record {
      old = p.old;
      new = p.new;
      capabilities = p.more;
      writes_old = p.writes_old;
      writes_new = p.writes_new;
      name = p.name;
      asks = p.asks;
      spelled = p.spelled ∙ ap (λ w. spelled_command p.old p.new w) p.cuts;
    }

pub first_command_again : (line : List ℕ) (atomic : Bool) (command : CommandText) → IsFirstCommandLine atomic command line → command_line true line ≡ Some (command, atomic)
first_command_again line atomic command h =
    parts_again true line command atomic (record {
      old = h.old;
      new = h.new;
      words = command.name ++ 0 ∷ h.capabilities;
      more = h.capabilities;
      writes_old = h.writes_old;
      writes_new = h.writes_new;
      name = h.name;
      cuts = refl;
      asks = h.asks;
      spelled = h.spelled;
    })
