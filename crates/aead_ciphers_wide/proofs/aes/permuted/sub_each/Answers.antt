use Rattle.aead_ciphers_wide.proofs
use proofs.PermutedBytes.{low_places, high_places, k_places, i_places, j_places, of_i_places, of_j_places, io_places, jo_places, sub_each_is}
use proofs.aes.permuted.sub_each.Goals as goal

pub look_up-low-requires : goal.look_up-low-requires
look_up-low-requires c = low_places c.args.bytes c.fits-bytes

pub look_up-high-requires : goal.look_up-high-requires
look_up-high-requires c = high_places c.args.bytes c.fits-bytes

pub look_up-scaled-requires : goal.look_up-scaled-requires
look_up-scaled-requires c = k_places c.args.bytes c.fits-bytes c.look_up-low.ensures c.look_up-high.ensures

pub look_up-requires : goal.look_up-requires
look_up-requires c = i_places c.args.bytes c.fits-bytes c.look_up-low.ensures c.look_up-high.ensures

pub look_up-requires-2 : goal.look_up-requires-2
look_up-requires-2 c = j_places c.args.bytes c.fits-bytes c.look_up-low.ensures c.look_up-high.ensures

pub look_up-requires-3 : goal.look_up-requires-3
look_up-requires-3 c =
    of_i_places c.args.bytes c.fits-bytes c.look_up-low.ensures c.look_up-high.ensures c.look_up-scaled.ensures c.look_up.ensures c.look_up-2.ensures

pub look_up-requires-4 : goal.look_up-requires-4
look_up-requires-4 c =
    of_j_places c.args.bytes c.fits-bytes c.look_up-low.ensures c.look_up-high.ensures c.look_up-scaled.ensures c.look_up.ensures c.look_up-2.ensures

pub look_up-requires-5 : goal.look_up-requires-5
look_up-requires-5 c =
    io_places c.args.bytes c.fits-bytes c.look_up-low.ensures c.look_up-high.ensures c.look_up-scaled.ensures c.look_up.ensures c.look_up-2.ensures
    c.look_up-3.ensures c.look_up-4.ensures

pub look_up-requires-6 : goal.look_up-requires-6
look_up-requires-6 c =
    jo_places c.args.bytes c.fits-bytes c.look_up-low.ensures c.look_up-high.ensures c.look_up-scaled.ensures c.look_up.ensures c.look_up-2.ensures
    c.look_up-3.ensures c.look_up-4.ensures

pub returns : goal.returns
returns c =
    sub_each_is c.args.bytes c.fits-bytes c.look_up-low.ensures c.look_up-high.ensures c.look_up-scaled.ensures c.look_up.ensures c.look_up-2.ensures
    c.look_up-3.ensures c.look_up-4.ensures c.look_up-5.ensures c.look_up-6.ensures
