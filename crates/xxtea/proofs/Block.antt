-- XXTEA on blocks of bytes: 16 bytes give 16, and each direction undoes the other. Assumes nothing.
use Rattle.std.proofs.Common.{◌≡◌, ℕ, zero, suc, ◌+◌, ◌*◌, ◌/◌, ◌%◌, ◌^◌, ◌<◌, List, [], ◌∷◌, length, map, w32, get_or, refl, ap, ◌∙◌, ap₂, arith}
use Rattle.std.proofs.lemmas.Nat.{from_le_bytes-to_le_bytes_4}
use Rattle.std.proofs.lemmas.List.FromFn.{fill_by_all}
use Rattle.std.specs.Int.{from_le_bytes, to_le_bytes}
use Rattle.std.specs.List.{range_with_len}
use Rattle.std.specs.Simd.{first_chunks}
use Rattle.xxtea.specs.Xxtea.{Direction, up, down, crypted}
use Rattle.xxtea.specs.Claims.{Words, Bytes, BlockCipher}
use Rattle.xxtea.specs.Block.{words_of, bytes_of, block_by}
use Rattle.xxtea.proofs.Laws.{opposite}
use Rattle.xxtea.proofs.Inverse.{undone, crypted_words, crypted-length}

length_words : (k : ℕ) (bs : List ℕ) → length bs ≡ 4 * k → length (words_of bs) ≡ k
unfolding words_of
length_words zero [] h = refl
length_words (suc k) [] h = absurd (omega arith)
length_words k (a ∷ []) h = absurd (omega arith)
length_words k (a ∷ b ∷ []) h = absurd (omega arith)
length_words k (a ∷ b ∷ c ∷ []) h = absurd (omega arith)
length_words zero (a ∷ b ∷ c ∷ d ∷ bs) h = absurd (omega arith)
length_words (suc k) (a ∷ b ∷ c ∷ d ∷ bs) h = ap suc (length_words k bs (omega arith))

length_bytes : (ws : List ℕ) → length (bytes_of ws) ≡ 4 * length ws
unfolding bytes_of
length_bytes [] = refl
length_bytes (w ∷ ws) = let h = length_bytes ws in omega (arith, h)

-- ---- the words and the bytes as the code makes them, each from its number

pub words_made : (bs : List ℕ) → length bs ≡ 16 → (chunks : List (List ℕ)) → chunks ≡ first_chunks 4 4 bs
    → map (λ i. from_le_bytes w32 (get_or chunks i [])) (range_with_len 0 4) ≡ words_of bs
unfolding words_of
words_made bs h chunks front =
    let e = fill_by_all (λ (i : ℕ). get_or bs i 0) bs 16 0 h (λ k l. refl) in
    rw (front, e) (simp worth)
  where
    worth : (a b c d : ℕ) → a + b * 256 + c * 65536 + d * 16777216 ≡ a + 256 * b + 65536 * c + 16777216 * d
    worth a b c d = omega arith

pub bytes_made : (ws : List ℕ) → length ws ≡ 4 → map (λ i. get_or (to_le_bytes w32 (get_or ws (i / 4) 0)) (i % 4) 0) (range_with_len 0 16) ≡ bytes_of ws
unfolding bytes_of
bytes_made ws h =
    let e = fill_by_all (λ (i : ℕ). get_or ws i 0) ws 4 0 h (λ k l. refl) in
    rw e

-- ---- splitting and joining undo each other

words_bytes : (ws : List ℕ) → Words ws → words_of (bytes_of ws) ≡ ws
unfolding words_of bytes_of
words_bytes [] h = refl
words_bytes (w ∷ ws) h =
    ap₂ {C = List ℕ} (λ v vs. v ∷ vs) (joined w (h 0 (omega arith))) (words_bytes ws (λ i q. h (suc i) (omega arith)))
  where
    joined : (w : ℕ) → w < 2 ^ 32
        → w % 2 ^ 8 + 2 ^ 8 * (w / 2 ^ 8 % 2 ^ 8) + 2 ^ 16 * (w / 2 ^ 16 % 2 ^ 8) + 2 ^ 24 * (w / 2 ^ 24 % 2 ^ 8) ≡ w
    joined w l = omega (arith, from_le_bytes-to_le_bytes_4 w l)

bytes_words : (k : ℕ) (bs : List ℕ) → Bytes bs → length bs ≡ 4 * k → bytes_of (words_of bs) ≡ bs
unfolding words_of bytes_of
bytes_words k [] h e = refl
bytes_words k (a ∷ []) h e = absurd (omega arith)
bytes_words k (a ∷ b ∷ []) h e = absurd (omega arith)
bytes_words k (a ∷ b ∷ c ∷ []) h e = absurd (omega arith)
bytes_words zero (a ∷ b ∷ c ∷ d ∷ bs) h e = absurd (omega arith)
bytes_words (suc k) (a ∷ b ∷ c ∷ d ∷ bs) h e =
    let x = split a b c d (h 0 (omega arith)) (h 1 (omega arith)) (h 2 (omega arith)) (h 3 (omega arith)) in
    rw (x.0, x.1, x.2, x.3, bytes_words k bs (λ i q. h (suc (suc (suc (suc i)))) (omega arith)) (omega arith))
  where
    split : (a b c d : ℕ) → a < 256 → b < 256 → c < 256 → d < 256
        → ((a + 256 * b + 65536 * c + 16777216 * d) % 256 ≡ a)
        × ((a + 256 * b + 65536 * c + 16777216 * d) / 256 % 256 ≡ b)
        × ((a + 256 * b + 65536 * c + 16777216 * d) / 65536 % 256 ≡ c)
        × ((a + 256 * b + 65536 * c + 16777216 * d) / 16777216 % 256 ≡ d)
    split a b c d ha hb hc hd = (omega arith, omega arith, omega arith, omega arith)

words_bounded : (bs : List ℕ) → Bytes bs → Words (words_of bs)
unfolding words_of
words_bounded [] h i l = absurd (omega arith)
words_bounded (a ∷ []) h i l = absurd (omega arith)
words_bounded (a ∷ b ∷ []) h i l = absurd (omega arith)
words_bounded (a ∷ b ∷ c ∷ []) h i l = absurd (omega arith)
words_bounded (a ∷ b ∷ c ∷ d ∷ bs) h zero l =
    let ha = h 0 (omega arith) in
    let hb = h 1 (omega arith) in
    let hc = h 2 (omega arith) in
    let hd = h 3 (omega arith) in
    omega arith
words_bounded (a ∷ b ∷ c ∷ d ∷ bs) h (suc i) l = words_bounded bs (λ j q. h (suc (suc (suc (suc j)))) (omega arith)) i (omega arith)

-- ---- a block

sixteen : (d : Direction) (key block : List ℕ) → length block ≡ 16 → length (block_by d key block) ≡ 16
unfolding block_by
sixteen d key block e =
    let w = length_words 4 block e in
    let c = crypted-length d (words_of key) (words_of block) in
    let h = length_bytes (crypted d (words_of key) (words_of block)) in
    omega (arith, w, c, h)

back : (d : Direction) (key block : List ℕ) → Bytes block → length block ≡ 16
    → block_by (opposite d) key (block_by d key block) ≡ block
unfolding block_by
back d key block h e =
    let w = length_words 4 block e in
    let b = words_bounded block h in
    ap (λ ws. bytes_of (crypted (opposite d) (words_of key) ws))
    (words_bytes (crypted d (words_of key) (words_of block)) (crypted_words d (words_of key) (words_of block) (omega (arith, w)) b))
    ∙ ap bytes_of (undone d (words_of key) (words_of block) b) ∙ bytes_words 4 block h e

pub block_cipher : BlockCipher
block_cipher = record { sixteen = sixteen; deciphering = back up; enciphering = back down }
