-- An angle by the most of its thousandths and of its degrees.
use Rattle.std.specs.Prelude.{ℕ, ◌+◌}
use Rattle.atn.specs.Format.{Fmt, Alts, num, seq, choice, end, ◌⨾◌, none_left, ◌∥◌}

-- the seven tags follow one another: form, thousandths, degrees, hundredths, minutes, seconds, side
abbrev pub forms : ℕ → ℕ → ℕ → Alts
forms t most degrees =
    num (t + 1) 0 most
    ∥ seq (num (t + 2) 0 degrees ⨾ num (t + 3) 0 5999 ⨾ end)
    ∥ seq (num (t + 2) 0 degrees ⨾ num (t + 4) 0 59 ⨾ num (t + 5) 0 59 ⨾ end)
    ∥ none_left

abbrev pub angle_of : ℕ → ℕ → ℕ → Fmt
angle_of t most degrees = seq (choice t (forms t most degrees) ⨾ num (t + 6) 0 1 ⨾ end)
