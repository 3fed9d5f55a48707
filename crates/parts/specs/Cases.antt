-- Worked cases of document 02, No. 5: which counts, lists and lengths fit, and how a buffer is parted.
-- Assumes nothing.
use Rattle.std.specs.Prelude.{◌≡◌, refl, [], ◌∷◌}
use Rattle.numbers.specs.Numbers.{done, heads_refusal, turn_refusal}
use Rattle.parts.specs.Parts.{together, heads_fit, heads_number, part_of, share_of}

-- three heads, the first and the last without a trace: 5 bytes are theirs, and not 4 or 6
three_fit : heads_number 3 5 (0 ∷ 5 ∷ 0 ∷ []) (0 ∷ 0 ∷ 0 ∷ []) 1 ≡ done
unfolding heads_number heads_fit together
three_fit = refl

one_too_few : heads_number 3 4 (0 ∷ 5 ∷ 0 ∷ []) (0 ∷ 0 ∷ 0 ∷ []) 1 ≡ heads_refusal
unfolding heads_number heads_fit together
one_too_few = refl

one_too_many : heads_number 3 6 (0 ∷ 5 ∷ 0 ∷ []) (0 ∷ 0 ∷ 0 ∷ []) 1 ≡ heads_refusal
unfolding heads_number heads_fit together
one_too_many = refl

-- lengths that come to 5 modulo 2^64 alone
wrapped : heads_number 2 5 (18446744073709551615 ∷ 6 ∷ []) (0 ∷ 0 ∷ []) 1 ≡ heads_refusal
unfolding heads_number heads_fit together
wrapped = refl

-- no heads, and nine
no_heads : heads_number 0 0 [] [] 1 ≡ heads_refusal
unfolding heads_number heads_fit together
no_heads = refl

nine_heads : heads_number 9 0 (0 ∷ 0 ∷ 0 ∷ 0 ∷ 0 ∷ 0 ∷ 0 ∷ 0 ∷ 0 ∷ []) (0 ∷ 0 ∷ 0 ∷ 0 ∷ 0 ∷ 0 ∷ 0 ∷ 0 ∷ 0 ∷ []) 1 ≡ heads_refusal
unfolding heads_number heads_fit together
nine_heads = refl

-- a start too few; a turn of no steps; both, of which 14 is told
start_missing : heads_number 2 0 (0 ∷ 0 ∷ []) (0 ∷ []) 1 ≡ heads_refusal
unfolding heads_number heads_fit together
start_missing = refl

no_steps : heads_number 1 0 (0 ∷ []) (0 ∷ []) 0 ≡ turn_refusal
unfolding heads_number heads_fit together
no_steps = refl

both_faults : heads_number 2 0 (0 ∷ 0 ∷ []) (0 ∷ []) 0 ≡ heads_refusal
unfolding heads_number heads_fit together
both_faults = refl

-- a log of 7 bytes and three heads: parts of 2, the last byte no head's; one of 2 bytes and eight heads: parts of none
parts_of_seven : share_of 7 3 ≡ 2
parts_of_seven = refl

third_part : part_of 4 2 (10 ∷ 11 ∷ 12 ∷ 13 ∷ 14 ∷ 15 ∷ 16 ∷ []) ≡ 14 ∷ 15 ∷ []
third_part = refl

parts_of_two : share_of 2 8 ≡ 0
parts_of_two = refl
