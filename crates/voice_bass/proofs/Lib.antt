mod Bass
