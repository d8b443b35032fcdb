-- The numbers of document 01, "The cipher", and published vectors. They are computed: a definition with another
-- constant, shift or number of rounds is refused here, even where the code is wrong in the same way. Assumes nothing.
use Rattle.std.specs.Prelude.{◌≡◌, ℕ, List, [], ◌∷◌, map, None, Some}
use Rattle.xxtea.specs.Xxtea.{rounds_for, sum_in, enciphered, refused}
use Rattle.xxtea.specs.Block.{E}

-- a key, what it enciphers, and the result
pub record Vector : Type 0 where
  pub key : List ℕ
  pub input : List ℕ
  pub result : List ℕ

-- Two words: one of the published vectors that crates/vectors runs. Nine words, so that p goes past 3: the bytes of
-- "Hello World! 你好，中国！" and their number, by the key "1234567890", a vector of the public xxtea libraries, whose result
-- in base 64 is QncB1C0rHQoZ1eRiPM4dsZtRi9pNrp7sqvX76cFXvrrIHXL6.
unfoldable pub vectors : List Vector
vectors =
    record {
      key = 0x0804_0201 ∷ 0x8040_2010 ∷ 0xF8FC_FEFF ∷ 0x80C0_E0F0 ∷ [];
      input = 0xF8FC_FEFF ∷ 0x80C0_E0F0 ∷ [];
      result = 0xC007_378C ∷ 0xC4CC_7F1C ∷ [];
    }
    ∷ record {
      key = 0x3433_3231 ∷ 0x3837_3635 ∷ 0x3039 ∷ 0 ∷ [];
      input =
          0x6C6C_6548 ∷ 0x6F57_206F ∷ 0x2164_6C72 ∷ 0xA0BD_E420 ∷ 0xEFBD_A5E5
          ∷ 0xB8E4_8CBC ∷ 0xBD9B_E5AD ∷ 0x0081_BCEF ∷ 31 ∷ [];
      result =
          0xD401_7742 ∷ 0x0A1D_2B2D ∷ 0x62E4_D519 ∷ 0xB11D_CE3C ∷ 0xDA8B_519B
          ∷ 0xEC9E_AE4D ∷ 0xE9FB_F5AA ∷ 0xBABE_57C1 ∷ 0xFA72_1DC8 ∷ [];
    }
    ∷ []

-- Bytes: a PIN, the block of eight zero bytes and the counter 1, and what the published routine makes of it
-- (bench/cipher/published.c).
unfoldable pub response : Vector
response =
    record {
      key = 1 ∷ 2 ∷ 4 ∷ 8 ∷ 16 ∷ 32 ∷ 64 ∷ 128 ∷ 255 ∷ 254 ∷ 252 ∷ 248 ∷ 240 ∷ 224 ∷ 192 ∷ 128 ∷ [];
      input = 0 ∷ 0 ∷ 0 ∷ 0 ∷ 0 ∷ 0 ∷ 0 ∷ 0 ∷ 0 ∷ 0 ∷ 0 ∷ 0 ∷ 0 ∷ 0 ∷ 0 ∷ 1 ∷ [];
      result = 61 ∷ 130 ∷ 244 ∷ 195 ∷ 70 ∷ 142 ∷ 124 ∷ 166 ∷ 19 ∷ 106 ∷ 251 ∷ 24 ∷ 172 ∷ 175 ∷ 51 ∷ 91 ∷ [];
    }

pub record Numbers : Type 0 where
  -- "n words, 2 to 1,024"; "17, cipher word count outside 2 to 1,024"
  pub lengths : map refused (1 ∷ 2 ∷ 1024 ∷ 1025 ∷ []) ≡ Some 17 ∷ None ∷ None ∷ Some 17 ∷ []
  -- "32 for n = 2, 19 for 4, 7 for 52, 6 for 53"
  pub rounds : map rounds_for (2 ∷ 4 ∷ 52 ∷ 53 ∷ []) ≡ 32 ∷ 19 ∷ 7 ∷ 6 ∷ []
  -- "For n = 4 that first sum is 0xBE1E08BB"
  pub first_sum : sum_in (rounds_for 4) ≡ 0xBE1E_08BB
  -- "For the cipher the published XXTEA .. decides"
  pub published : map (λ v. enciphered v.key v.input) vectors ≡ map (λ v. v.result) vectors
  -- "A PIN is the key and a block is 16 bytes; both split into four words, low byte first"
  pub block : E response.key response.input ≡ response.result
