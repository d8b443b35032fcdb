-- The root of the definitions of `tag_c`. The public contracts cite `rules`, CCalls.antt, alone.
pub mod Lent
