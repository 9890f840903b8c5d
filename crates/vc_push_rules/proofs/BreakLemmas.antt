-- No name of a ref has a byte at which a line of a message breaks.
use Rattle.std.proofs.Common.{◌≡◌, ◌==◌, ◌||◌, ℕ, true, false, true≢false, List, [], ◌∷◌, refl, ap, sym, ◌∙◌, arith}
use Rattle.std.specs.List.{list_any}
use Rattle.std.specs.Prelude.{◌≢◌}
use Rattle.std.proofs.lemmas.Bool.{or_from, or_parts}
use Rattle.std.proofs.lemmas.Bool.Decides.{nat_tests}
use Rattle.vc_fetch.specs.Advert.{is_break}
use Rattle.vc_refname.specs.RefName.{is_bad_byte}

pub differs : (b k : ℕ) → is_bad_byte k ≡ true → is_bad_byte b ≡ false → (b == k) ≡ false
differs b k bad fine = let other : b ≢ k = λ e. true≢false (sym bad ∙ sym (ap is_bad_byte e) ∙ fine) in grind (arith, nat_tests, other)

pub no_break : (name : List ℕ) → list_any is_bad_byte name ≡ false → list_any is_break name ≡ false
no_break [] fine = refl
no_break (b ∷ bs) fine =
    let parts = or_parts (is_bad_byte b) (list_any is_bad_byte bs) fine in
    or_from (is_break b) (list_any is_break bs)
    (or_from (b == 0) (b == 10 || b == 32) (differs b 0 refl parts.0) (or_from (b == 10) (b == 32) (differs b 10 refl parts.0) (differs b 32 refl parts.0)))
    (no_break bs parts.1)
