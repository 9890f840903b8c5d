-- An index's text is read as it is written, and stands for one index.
use Rattle.std.proofs.Common.{◌≡◌, ◌≢◌, ℕ, ◌≤◌, true, List, [], ◌∷◌, ◌++◌, Option, Some, sym, ap, refl, ◌∙◌, subst, length, arith, append_assoc}
use Rattle.std.specs.Prelude.{unwrap_or}
use Rattle.std.proofs.lemmas.Bool.Decides.{nat_tests}
use Rattle.std.proofs.lemmas.List.{length-take-le}
use Rattle.std.proofs.lemmas.Option.{some_pair_parts}
use Rattle.hex.specs.Hex.{encode_lower, lower_digits}
use Rattle.hex.proofs.HexLemmas.{length-encode_with}
use Rattle.vc_object.specs.Bytes.{Without, cut}
use Rattle.vc_object.specs.Entries.{mode_of}
use Rattle.vc_object.specs.Items.{◌>>=◌}
use Rattle.vc_object.specs.Lines.{IsId, after_word, lower_id, split}
use Rattle.vc_object.specs.ObjectId.{is_id}
use Rattle.vc_object.specs.Tree.{mode_text}
use Rattle.vc_object.specs.declared.id.ObjectId.{ObjectId}
use Rattle.vc_object.specs.declared.mode.Mode.{Mode}
use Rattle.vc_object.specs.declared.mode.Mode.TheVariants as modes
use Rattle.vc_object.proofs.IdLemmas.{IsId-from_is_id}
use Rattle.vc_object.proofs.Items.{bind_some}
use Rattle.vc_object.proofs.LineTexts.{after_word_some, after_word_again, lower_id_some, lower_id_again, split_some, split_again}
use Rattle.vc_object.proofs.Reading.{mode_some, mode_again, cond_none}
use Rattle.vc_object.proofs.Texts.{cut_some, cut_found}
use Rattle.vc_index.specs.IndexMap.{index_entry}
use Rattle.vc_index.specs.IndexText.{entry_text, mode_at, id_at, entry_at}
use Rattle.vc_index.specs.declared.entry.IndexEntry.{IndexEntry}

-- what an entry needs to be read again
pub record IsSpelt (path : List ℕ) (entry : IndexEntry) : Type 0 where
  pub no_nul : Without 0 path
  pub mode : entry.mode ≢ modes.Tree
  pub id : is_id entry.id ≡ true

six : (m : Mode) → m ≢ modes.Tree → length (mode_text m) ≡ 6
six modes.Tree n = absurd (n refl)
six modes.File n = refl
six modes.SharedFile n = refl
six modes.Executable n = refl
six modes.Link n = refl
six modes.Commit n = refl

five : (m : Mode) → m ≡ modes.Tree → length (mode_text m) ≡ 5
five m e = ap (λ n. length (mode_text n)) e

split_length : (n : ℕ) (text a b : List ℕ) → split n text ≡ Some (a, b) → length a ≡ n
split_length n text a b e =
    let h = cond_none _ _ _ e in
    let long : n ≤ length text = let t = h.0 in grind (arith, nat_tests) in
    sym (ap (λ (p : List ℕ × List ℕ). length p.0) h.1) ∙ length-take-le n text long

-- ---- what is spelt is read
mode_again' : (m : Mode) (r : List ℕ) → m ≢ modes.Tree → mode_at (mode_text m ++ ((32 ∷ []) ++ r)) ≡ Some (m, r)
unfolding mode_at
mode_again' m r n =
    ap (λ o. o >>= (λ digits. mode_of digits.0 >>= (λ mode. after_word (32 ∷ []) digits.1 >>= (λ rest. Some (mode, rest))))) (split_again 6 (mode_text m) ((32 ∷ []) ++ r) (six m n))
    ∙ ap (λ o. o >>= (λ mode. after_word (32 ∷ []) ((32 ∷ []) ++ r) >>= (λ rest. Some (mode, rest)))) (mode_again m)
    ∙ ap (λ o. o >>= (λ rest. Some (m, rest))) (after_word_again (32 ∷ []) r)

id_again : (id : ObjectId) (r : List ℕ) → IsId id → id_at (encode_lower id.0 ++ ((32 ∷ 48 ∷ 9 ∷ []) ++ r)) ≡ Some (id, r)
unfolding id_at
id_again id r i =
    let text = encode_lower id.0 in
    let long : length text ≡ 40 = let l = length-encode_with lower_digits id.0 in let n = i.sized in omega arith in
    ap (λ o. o >>= (λ digits. lower_id digits.0 >>= (λ found. after_word (32 ∷ 48 ∷ 9 ∷ []) digits.1 >>= (λ rest. Some (found, rest))))) (split_again 40 text ((32 ∷ 48 ∷ 9 ∷ []) ++ r) long)
    ∙ ap (λ o. o >>= (λ found. after_word (32 ∷ 48 ∷ 9 ∷ []) ((32 ∷ 48 ∷ 9 ∷ []) ++ r) >>= (λ rest. Some (found, rest)))) (lower_id_again id i)
    ∙ ap (λ o. o >>= (λ rest. Some (id, rest))) (after_word_again (32 ∷ 48 ∷ 9 ∷ []) r)

-- an entry as it is grouped for reading
grouped : (m i p r : List ℕ) → (m ++ (32 ∷ []) ++ i ++ (32 ∷ 48 ∷ 9 ∷ []) ++ p ++ (0 ∷ [])) ++ r ≡ m ++ ((32 ∷ []) ++ (i ++ ((32 ∷ 48 ∷ 9 ∷ []) ++ (p ++ 0 ∷ r))))
grouped m i p r = simp append_assoc

pub entry_again : (path : List ℕ) (entry : IndexEntry) (r : List ℕ) → IsSpelt path entry → entry_at (entry_text path entry ++ r) ≡ Some (path, entry, r)
unfolding entry_at
entry_again path entry r s =
    ap entry_at (grouped (mode_text entry.mode) (encode_lower entry.id.0) path r)
    ∙ ap (λ o. o >>= (λ mode. id_at mode.1 >>= (λ id. cut 0 id.1 >>= (λ p. Some (p.0, index_entry mode.0 id.0, p.1))))) (mode_again' entry.mode (encode_lower entry.id.0 ++ ((32 ∷ 48 ∷ 9 ∷ []) ++ (path ++ 0 ∷ r))) s.mode)
    ∙ ap (λ o. o >>= (λ id. cut 0 id.1 >>= (λ p. Some (p.0, index_entry entry.mode id.0, p.1)))) (id_again entry.id (path ++ 0 ∷ r) (IsId-from_is_id entry.id s.id))
    ∙ ap (λ o. o >>= (λ p. Some (p.0, index_entry entry.mode entry.id, p.1))) (cut_found 0 path r s.no_nul)

-- ---- what is read is spelt so
mode_some' : (bytes : List ℕ) (m : Mode) (r : List ℕ) → mode_at bytes ≡ Some (m, r) → (bytes ≡ mode_text m ++ ((32 ∷ []) ++ r)) × (m ≢ modes.Tree)
unfolding mode_at
mode_some' bytes m r e =
    let a = bind_some (split 6 bytes) _ _ e in
    let b = bind_some (mode_of a.0.0) _ _ a.2 in
    let c = bind_some (after_word (32 ∷ []) a.0.1) _ _ b.2 in
    parts a.0.0 a.0.1 b.0 c.0 a.1 (mode_some a.0.0 b.0 b.1) (after_word_some (32 ∷ []) a.0.1 c.0 c.1) c.2
  where
    parts : (f s : List ℕ) (n : Mode) (t : List ℕ) → split 6 bytes ≡ Some (f, s) → f ≡ mode_text n → s ≡ (32 ∷ []) ++ t → ◌≡◌ {A = Option (Mode × List ℕ)} (Some (n, t)) (Some (m, r)) → (bytes ≡ mode_text m ++ ((32 ∷ []) ++ r)) × (m ≢ modes.Tree)
    parts f s n t cut text rest same =
        let pair = some_pair_parts n m t r same in
        let whole : bytes ≡ mode_text n ++ ((32 ∷ []) ++ t) = split_some 6 bytes (f, s) cut ∙ ap (λ x. x ++ s) text ∙ ap (λ x. mode_text n ++ x) rest in (
          subst (λ (k : Mode). bytes ≡ mode_text k ++ ((32 ∷ []) ++ r)) pair.0 (whole ∙ ap (λ x. mode_text n ++ ((32 ∷ []) ++ x)) pair.1),
          λ tree. let l = split_length 6 bytes f s cut in omega (arith, l, ap length text, five n (pair.0 ∙ tree)),
        )

id_some : (bytes : List ℕ) (id : ObjectId) (r : List ℕ) → id_at bytes ≡ Some (id, r) → bytes ≡ encode_lower id.0 ++ ((32 ∷ 48 ∷ 9 ∷ []) ++ r)
unfolding id_at
id_some bytes id r e =
    let a = bind_some (split 40 bytes) _ _ e in
    let b = bind_some (lower_id a.0.0) _ _ a.2 in
    let c = bind_some (after_word (32 ∷ 48 ∷ 9 ∷ []) a.0.1) _ _ b.2 in
    parts a.0.0 a.0.1 b.0 c.0 a.1 (lower_id_some a.0.0 b.0 b.1).0 (after_word_some (32 ∷ 48 ∷ 9 ∷ []) a.0.1 c.0 c.1) c.2
  where
    parts : (f s : List ℕ) (i : ObjectId) (t : List ℕ) → split 40 bytes ≡ Some (f, s) → f ≡ encode_lower i.0 → s ≡ (32 ∷ 48 ∷ 9 ∷ []) ++ t → ◌≡◌ {A = Option (ObjectId × List ℕ)} (Some (i, t)) (Some (id, r)) → bytes ≡ encode_lower id.0 ++ ((32 ∷ 48 ∷ 9 ∷ []) ++ r)
    parts f s i t cut text rest same =
        let pair = some_pair_parts i id t r same in
        let whole : bytes ≡ encode_lower i.0 ++ ((32 ∷ 48 ∷ 9 ∷ []) ++ t) = split_some 40 bytes (f, s) cut ∙ ap (λ x. x ++ s) text ∙ ap (λ x. encode_lower i.0 ++ x) rest in
        subst (λ (k : ObjectId). bytes ≡ encode_lower k.0 ++ ((32 ∷ 48 ∷ 9 ∷ []) ++ r)) pair.0 (whole ∙ ap (λ x. encode_lower i.0 ++ ((32 ∷ 48 ∷ 9 ∷ []) ++ x)) pair.1)

pub entry_some : (bytes path : List ℕ) (entry : IndexEntry) (r : List ℕ) → entry_at bytes ≡ Some (path, entry, r) → (bytes ≡ entry_text path entry ++ r) × Without 0 path × (entry.mode ≢ modes.Tree)
unfolding entry_at
entry_some bytes path entry r e =
    let a = bind_some (mode_at bytes) _ _ e in
    let b = bind_some (id_at a.0.1) _ _ a.2 in
    let c = bind_some (cut 0 b.0.1) _ _ b.2 in
    parts a.0.0 a.0.1 b.0.0 b.0.1 c.0.0 c.0.1 (mode_some' bytes a.0.0 a.0.1 a.1) (id_some a.0.1 b.0.0 b.0.1 b.1) (cut_some 0 b.0.1 c.0.0 c.0.1 c.1) c.2
  where
    parts : (m : Mode) (s : List ℕ) (i : ObjectId) (t p u : List ℕ) → (bytes ≡ mode_text m ++ ((32 ∷ []) ++ s)) × (m ≢ modes.Tree) → s ≡ encode_lower i.0 ++ ((32 ∷ 48 ∷ 9 ∷ []) ++ t) → Without 0 p × (t ≡ p ++ 0 ∷ u)
        → ◌≡◌ {A = Option (List ℕ × IndexEntry × List ℕ)} (Some (p, index_entry m i, u)) (Some (path, entry, r)) → (bytes ≡ entry_text path entry ++ r) × Without 0 path × (entry.mode ≢ modes.Tree)
    parts m s i t p u mode id end same =
        let found : ◌≡◌ {A = List ℕ × IndexEntry × List ℕ} (p, index_entry m i, u) (path, entry, r) = ap (λ o. unwrap_or {T = List ℕ × IndexEntry × List ℕ} o (p, index_entry m i, u)) same in
        let whole : bytes ≡ entry_text p (index_entry m i) ++ u =
        mode.0 ∙ ap (λ x. mode_text m ++ ((32 ∷ []) ++ x)) id ∙ ap (λ x. mode_text m ++ ((32 ∷ []) ++ (encode_lower i.0 ++ ((32 ∷ 48 ∷ 9 ∷ []) ++ x)))) end.1 ∙ sym (grouped (mode_text m) (encode_lower i.0) p u) in
        subst (λ (f : List ℕ × IndexEntry × List ℕ). (bytes ≡ entry_text f.0 f.1 ++ f.2) × Without 0 f.0 × (f.1.mode ≢ modes.Tree)) found (whole, end.0, mode.1)
