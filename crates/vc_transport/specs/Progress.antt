-- What a terminal is told while a long message goes by.
use Rattle.std.specs.Prelude.{◌≡◌, ◌<◌, ◌+◌, ◌*◌, ◌/◌, ◌^◌, ℕ, Bool, nat_le, nat_lt, if◌then◌else◌, List, [], ◌∷◌, ◌++◌, codes, decimal}
use Rattle.vc_transport.specs.declared.progress.Progress.{Progress}
use Rattle.vc_transport.specs.declared.progress.Obstacle.{Obstacle}
use Rattle.vc_transport.specs.declared.progress.Obstacle.TheVariants.{Sent, Received}

-- so many bytes more were counted; a count ends at 2^64, which no message comes to
abbrev pub Counts : ℕ → ℕ → ℕ → Type 0
Counts old bytes new = old + bytes < 2 ^ 64 → new ≡ old + bytes

-- whether what is told goes to a terminal
abbrev pub goes_to_terminal : {W : Type 0} → Progress W → Bool
goes_to_terminal progress = progress.is_terminal

-- how many times 4 MiB the bytes are
abbrev pub steps : ℕ → ℕ
steps count = count / 4194304

abbrev pub way_word : Obstacle → List ℕ
way_word Sent = codes "sent"
way_word Received = codes "received"

-- the line of a count, in place of the one before: a carriage return, and how many MiB have gone by
abbrev pub progress_line : Obstacle → ℕ → List ℕ
progress_line way count = codes "\rvcs: " ++ (way_word way ++ (32 ∷ (decimal (steps count * 4) ++ codes " MiB")))

-- where a count came to a further 4 MiB, its line
abbrev pub further_line : Obstacle → ℕ → ℕ → List ℕ
further_line way old new = if nat_lt (steps old) (steps new) then progress_line way new else []

-- what is told where a count grows, on a terminal alone
abbrev pub told_text : Bool → Obstacle → ℕ → ℕ → List ℕ
told_text is_terminal way old new = if is_terminal then further_line way old new else []

-- the end of the line of a message, where it has one
abbrev pub line_end : ℕ → List ℕ
line_end count = if nat_le 4194304 count then 10 ∷ [] else []

-- what is told at the end of a message, on a terminal alone
abbrev pub end_text : Bool → ℕ → List ℕ
end_text is_terminal count = if is_terminal then line_end count else []
